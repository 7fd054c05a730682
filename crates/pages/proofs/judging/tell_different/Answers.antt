use Rattle.std.proofs.Common.{ℕ, List, vec_items, sym, ◌∙◌, subst}
use Rattle.trees.specs.Alphabets.{ranks_of}
use Rattle.trees.specs.Lists.{IsTreeList}
use Rattle.tables.specs.Histories.{Lived, book}
use Rattle.tables.specs.Images.{closed_holds}
use Rattle.tables.proofs.Faithful.{faithful}
use Rattle.pages.specs.Judging.{TellsDifferent}
use Rattle.pages.proofs.Calls.{thrown}
use Rattle.pages.proofs.Judged.{same_held, told_different}
use Rattle.pages.proofs.judging.tell_different.Goals as goal

pub returns-in_err-second_code : goal.returns-in_err-second_code
returns-in_err-second_code g c =
    thrown (TellsDifferent g.W.Kind.weights (closed_holds g.W.Kind.stands c.args.first.now) (closed_holds g.W.Kind.stands c.args.second.now) c.args.list.now) c.from_residual-in_err-second_code.result c.in_err-second_code.field-0.0 c.from_residual-in_err-second_code.ensures.1
    (λ o h l o' h' l' a. c.in_err-second_code.ensures.answer o' h' l' (subst (λ (rs : List ℕ). IsTreeList rs c.args.list.now) a.one_alphabet a.is_list))

pub returns : goal.returns
returns g c = λ o h l o' h' l' a.
    let K = g.W.Kind.weights in
    let stands = g.W.Kind.stands in
    let list = c.args.list.now in
    told_different K (book o h) (book o' h') c.in_ok-first_states.first_states c.in_ok-second_states.second_states list (ranks_of c.alphabet-alphabet.result) (vec_items c.in_ok-write_different.field-0) c.in_ok-first_code.first_code c.in_ok-second_code.second_code a
    (c.in_ok-first_states.ensures o h (subst (Lived K o h) (sym (same_held stands c.args.first.now c.weigh_code.new.table c.in_ok-first_code.ensures.same)) l))
    (c.in_ok-second_states.ensures o' h' (subst (Lived K o' h') (sym (same_held stands c.args.second.now c.weigh_code-2.new.table c.in_ok-second_code.ensures.same)) l'))
    (c.alphabet-alphabet.ensures ∙ sym (faithful K o l).weighs.alphabet)
    (c.in_ok-first_code.ensures.answer o h l a.is_list)
    (c.in_ok-second_code.ensures.answer o' h' l' (subst (λ (rs : List ℕ). IsTreeList rs list) a.one_alphabet a.is_list))
    c.in_ok-write_different.ensures
