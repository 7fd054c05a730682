-- The reductions of two tables with three states.
use Rattle.std.proofs.Common.{◌≡◌, ℕ, zero, suc, ◌*◌, ◌%◌, ◌<◌, ◌≤◌, true, eqb, length, Some, None, Option, sym, refl, ap, ◌∙◌, arith}
use Rattle.std.proofs.lemmas.Bool.{false≢true, eq-eqb}
use Rattle.kinds.specs.declared.residue.Residue.{Residue}
use Rattle.kinds.specs.declared.marks.Marks.{Marks}
use Rattle.kinds.specs.Weights.{Weights}
use Rattle.kinds.specs.Residues.{residues, residue_path}
use Rattle.kinds.specs.Marks.{mark, marks}
use Rattle.automata.specs.Trees.{rank}
use Rattle.automata.specs.Automata.{Automaton, Within, Sound}
use Rattle.automata.specs.Runs.{weight_of, Alike}
use Rattle.automata.specs.Contexts.{hole, value, scaled, starting, Live, Equivalent}
use Rattle.automata.specs.Merging.{Grouping, merged}
use Rattle.automata.specs.Examples.{residue, constant, above, above_context, leaf, edge}
use Rattle.automata.proofs.Equivalents.{alike_accepting}
use Rattle.automata.proofs.Reduces.{reducing}
use Rattle.reduction.specs.Partitions.{Partition}
use Rattle.known.specs.Cases.{paired, twofold, Classes, PairedMerge, Holds, equivalent_states, states_apart}
use Rattle.known.proofs.Chained.{up, multiplied, chained}
use Rattle.known.proofs.Classes.{live_member, together, two_classes, three_classes}

paired_unary : (s : ℕ) → rank paired.ranks s ≤ 1
paired_unary zero = omega arith
paired_unary (suc zero) = omega arith
paired_unary (suc (suc zero)) = omega arith
paired_unary (suc (suc (suc s))) = omega arith

paired_up : (s : ℕ) → s < 3 → up residues paired s (starting residues 0) ≡ multiplied residues paired (residue 2 tt tt) (up residues paired s (starting residues 1))
paired_up zero l = refl
paired_up (suc zero) l = refl
paired_up (suc (suc zero)) l = ap (λ w. Some (record { state = 2; weight = w })) (residue_path _ _ refl)
paired_up (suc (suc (suc s))) l = absurd (omega arith)

paired_equivalent : Equivalent residues paired (residue 2 tt tt) 0 1
paired_equivalent = chained residues paired paired_unary (residue 2 tt tt) 0 1 paired_up refl refl

paired_live : (q : ℕ) → q < 3 → Live residues paired q
paired_live zero l = record {
  reachable = record { tree = constant 0; over = (omega arith, refl, tt); weight = _; runs_to = refl };
  sign = record { context = above_context 2 hole; over = (omega arith, refl, tt, tt, tt); weight = _; gives = refl };
}
paired_live (suc zero) l = record {
  reachable = record { tree = constant 1; over = (omega arith, refl, tt); weight = _; runs_to = refl };
  sign = record { context = above_context 2 hole; over = (omega arith, refl, tt, tt, tt); weight = _; gives = refl };
}
paired_live (suc (suc zero)) l = record {
  reachable = record { tree = above 2 (constant 0); over = (omega arith, refl, ((omega arith, refl, tt), tt)); weight = _; runs_to = refl };
  sign = record { context = hole; over = tt; weight = _; gives = refl };
}
paired_live (suc (suc (suc q))) l = absurd (omega arith)

paired_classes : Classes residues paired 2
paired_classes G h = two_classes residues paired G h refl paired_live (residue 2 tt tt) paired_equivalent (λ b e. false≢true (alike_accepting residues paired b 0 2 e))

leaf_within : (s q : ℕ) (w : Residue) → s < 2 → q < 3 → Within paired.ranks 3 (leaf s q w)
leaf_within zero q w h k = record { symbol_within = omega arith; children_rank = refl; children_within = tt; target_within = k }
leaf_within (suc zero) q w h k = record { symbol_within = omega arith; children_rank = refl; children_within = tt; target_within = k }
leaf_within (suc (suc s)) q w h k = absurd (omega arith)

edge_within : (p : ℕ) (w : Residue) → p < 3 → Within paired.ranks 3 (edge 2 p 2 w)
edge_within p w h = record { symbol_within = omega arith; children_rank = refl; children_within = (h, tt); target_within = omega arith }

paired_sound : Sound paired
paired_sound = record {
  within = (
    leaf_within 0 0 (residue 3 tt tt) (omega arith) (omega arith),
    (
      leaf_within 1 1 (residue 6 tt tt) (omega arith) (omega arith),
      (edge_within 0 (residue 10 tt tt) (omega arith), (edge_within 1 (residue 5 tt tt) (omega arith), tt)),
    ),
  );
  single = (refl, (refl, (refl, (refl, tt))));
}

first_weight : weight_of residues paired (above 2 (constant 0)) ≡ Some (residue 30 tt tt)
first_weight = ap Some (residue_path _ _ refl)

second_weight : weight_of residues paired (above 2 (constant 1)) ≡ Some (residue 30 tt tt)
second_weight = ap Some (residue_path _ _ refl)

module _ (G : Grouping Residue) (h : Partition residues paired G) where
  merge_alike : Alike residues paired (merged residues G paired)
  merge_alike =
      (reducing residues paired G paired_sound (record { live_members = h.live_members; shared = λ p q m n a e. (h.equivalent_class p q m n).1 (a, e) })
      ).alike h.admissible

  merge_rules : length (merged residues G paired).rules ≡ 3
  merge_rules =
      let m = live_member residues paired G h in
      let i = m 0 (paired_live 0 (omega arith)) in
      let j = m 1 (paired_live 1 (omega arith)) in
      let k = m 2 (paired_live 2 (omega arith)) in
      let e = together residues paired G h 0 1 (paired_live 0 (omega arith)) (paired_live 1 (omega arith)) (residue 2 tt tt) paired_equivalent in
      let t : eqb (G.class 1) (G.class 0) ≡ true = eq-eqb (G.class 1) (G.class 0) (sym e) in
      simp (i, j, k, t)

  paired_merge : PairedMerge (merged residues G paired)
  paired_merge = record {
    rules = merge_rules;
    first = sym (merge_alike.weights (above 2 (constant 0)) (omega arith, refl, ((omega arith, refl, tt), tt))) ∙ first_weight;
    second = sym (merge_alike.weights (above 2 (constant 1)) (omega arith, refl, ((omega arith, refl, tt), tt))) ∙ second_weight;
  }

pub equivalents : Holds equivalent_states
equivalents = (paired_classes, paired_merge, first_weight, second_weight)

module _ {W : Type 0} (K : Weights W) (v w : W) where
  twofold_live : (q : ℕ) → q < 3 → Live K (twofold K v w) q
  twofold_live zero l = record {
    reachable = record { tree = constant 0; over = (omega arith, refl, tt); weight = _; runs_to = refl };
    sign = record { context = above_context 2 hole; over = (omega arith, refl, tt, tt, tt); weight = _; gives = refl };
  }
  twofold_live (suc zero) l = record {
    reachable = record { tree = constant 1; over = (omega arith, refl, tt); weight = _; runs_to = refl };
    sign = record { context = above_context 2 hole; over = (omega arith, refl, tt, tt, tt); weight = _; gives = refl };
  }
  twofold_live (suc (suc zero)) l = record {
    reachable = record { tree = above 2 (constant 0); over = (omega arith, refl, ((omega arith, refl, tt), tt)); weight = _; runs_to = refl };
    sign = record { context = hole; over = tt; weight = _; gives = refl };
  }
  twofold_live (suc (suc (suc q))) l = absurd (omega arith)

  -- only the state 2 accepts
  twofold_apart : (p : ℕ) → p < 2 → (a : W) → Equivalent K (twofold K v w) a p 2 → ⊥
  twofold_apart zero l a e = false≢true (alike_accepting K (twofold K v w) a 0 2 e)
  twofold_apart (suc zero) l a e = false≢true (alike_accepting K (twofold K v w) a 1 2 e)
  twofold_apart (suc (suc p)) l a e = absurd (omega arith)

abbrev weighted : Automaton Residue
weighted = twofold residues (residue 2 tt tt) (residue 3 tt tt)

-- below the symbol 2 the states give alike, and below 3 they do not
weighted_apart : (a : Residue) → Equivalent residues weighted a 0 1 → ⊥
weighted_apart a e =
    let i : value residues weighted (above_context 2 hole) 0 ≡ scaled residues a (value residues weighted (above_context 2 hole) 1) = e (above_context 2 hole) (omega arith, refl, tt, tt, tt) in
    let j : value residues weighted (above_context 3 hole) 0 ≡ scaled residues a (value residues weighted (above_context 3 hole) 1) = e (above_context 3 hole) (omega arith, refl, tt, tt, tt) in
    let k : 1 ≡ a.code * 1 % 257 = ap code_of i in
    let l : 2 ≡ a.code * 3 % 257 = ap code_of j in
    let high : a.code ≤ 256 = a.high in
    let one : a.code ≡ 1 = omega arith in
    let m : 2 ≡ 1 * 3 % 257 = l ∙ ap (λ n. n * 3 % 257) one in
    omega arith
  where
    code_of : Option Residue → ℕ
    code_of None = 0
    code_of (Some w) = w.code

abbrev unweighted : Automaton Marks
unweighted = twofold marks mark mark

unweighted_unary : (s : ℕ) → rank unweighted.ranks s ≤ 1
unweighted_unary zero = omega arith
unweighted_unary (suc zero) = omega arith
unweighted_unary (suc (suc zero)) = omega arith
unweighted_unary (suc (suc (suc zero))) = omega arith
unweighted_unary (suc (suc (suc (suc s)))) = omega arith

unweighted_up : (s : ℕ) → s < 4 → up marks unweighted s (starting marks 0) ≡ multiplied marks unweighted mark (up marks unweighted s (starting marks 1))
unweighted_up zero l = refl
unweighted_up (suc zero) l = refl
unweighted_up (suc (suc zero)) l = refl
unweighted_up (suc (suc (suc zero))) l = refl
unweighted_up (suc (suc (suc (suc s)))) l = absurd (omega arith)

pub separate : Holds states_apart
separate = (
  λ G h. three_classes residues weighted G h refl (twofold_live residues (residue 2 tt tt) (residue 3 tt tt)) weighted_apart (twofold_apart residues (residue 2 tt tt) (residue 3 tt tt) 0 (omega arith)) (twofold_apart residues (residue 2 tt tt) (residue 3 tt tt) 1 (omega arith)),
  λ G h. two_classes marks unweighted G h refl (twofold_live marks mark mark) mark (chained marks unweighted unweighted_unary mark 0 1 unweighted_up refl refl) (twofold_apart marks mark mark 0 (omega arith)),
)
