use Rattle.std.proofs.Common.{◌≡◌, ℕ, ◌+◌, ◌<◌, List, [], length, take, None, sym, ap, ◌∙◌, subst, arith, rules}
use Rattle.std.proofs.lemmas.List.{take_more_set}
use Rattle.automata.specs.Trees.{rank}
use Rattle.trees.specs.declared.node.Node.{Node}
use Rattle.comparison.specs.Scanning.{tables_of, runs_of, entry_of, number_by, Said, ClearOver, Filled}
use Rattle.comparison.proofs.Tuples.{absent, empty, filled_by, each_more, each_here, each_none, each_all, over_none}
use Rattle.comparison.proofs.scan.Scan.+fill.Goals as goal
use Rattle.comparison.proofs.scan.Scan.+fill.Goals.{in-Some-known_pair+else-is_some, in_default-known_pair}

pub returns-in_default-clause-clear : goal.returns-in_default-clause-clear
returns-in_default-clause-clear g t c e =
    let K = g.W.Kind.weights in
    let T = tables_of g.W.Kind.stands c.args.self.now in
    let R = runs_of g.W.Kind.stands c.args.self.now in
    let N = entry_of c.args.self.now in
    let s = c.args.node.symbol in
    let before = take c.args.place c.args.node.children in
    let none : [] ≡ c.args.states.now = sym (empty c.args.states.now c.in_default.ensures.cases) in
    let full : rank T.first.ranks s ≡ c.args.place = omega (arith, c.requires.rank, c.in_default.ensures.cases) in
    subst (ClearOver K T R N c.args.side s before) none
    (over_none K T R N c.args.side s before (subst (λ (n : ℕ). Said K T R N s (take n c.args.node.children) None) full (c.finding_of.ensures.clear e)))

pub fill-finding-requires : goal.fill-finding-requires
fill-finding-requires g t c κs within =
    let long : length c.in-Some.rest.now + 1 ≡ length c.args.states.now = c.in-Some.ensures.cases.1 in
    let room : c.args.place < length c.args.node.children = omega (arith, long, c.requires.small, c.requires.filled.four) in
    let filled : Filled (entry_of c.args.self.now) (c.args.place + 1) c.with_child.result =
    filled_by (entry_of c.args.self.now) c.args.side c.args.place c.in-Some-known_pair.entry c.in-Some.state.now c.loop-q.q c.args.node c.with_child.result room (ap (λ (n : Node). n.children) c.with_child.ensures) (ap (λ (x : ℕ). number_by c.args.side (entry_of c.args.self.now) x c.loop-q.q) (sym c.from.ensures) ∙ sym c.known_pair.ensures ∙ c.in-Some-known_pair.is) c.requires.filled in
    search rules

pub loop-q-preserved : goal.loop-q-preserved
loop-q-preserved g t c =
    let K = g.W.Kind.weights in
    let T = tables_of g.W.Kind.stands c.args.self.now in
    let R = runs_of g.W.Kind.stands c.args.self.now in
    let N = entry_of c.args.self.now in
    let s = c.args.node.symbol in
    let before = take c.args.place c.args.node.children in
    let p = c.in-Some.state.now in
    let ps = c.in-Some.rest.now in
    let read : number_by c.args.side N p c.loop-q.q ≡ c.known_pair.result = ap (λ (x : ℕ). number_by c.args.side N x c.loop-q.q) (sym c.from.ensures) ∙ sym c.known_pair.ensures in
    elim c.match-known_pair.branch [
      | in-Some-known_pair+else-is_some w ↦
          let room : c.args.place < length c.args.node.children = omega (arith, c.in-Some.ensures.cases.1, c.requires.small, c.requires.filled.four) in
          each_more K T R N c.args.side s before p ps c.loop-q.q
          (each_here K T R N c.args.side s before p c.loop-q.q w.in-Some-known_pair.entry ps (read ∙ w.in-Some-known_pair.is)
          (subst (λ (xs : List ℕ). ClearOver K T R N c.args.side s xs ps)
          (ap (λ (n : Node). take (c.args.place + 1) n.children) w.with_child.ensures ∙ take_more_set c.args.node.children c.args.place w.in-Some-known_pair.entry room)
          (subst (λ (x : ℕ). ClearOver K T R N c.args.side x (take (c.args.place + 1) w.with_child.result.children) ps) (ap (λ (n : Node). n.symbol) w.with_child.ensures)
          (w.fill-finding.ensures.clear (absent w.fill-finding.result (sym w.is_some.ensures ∙ w.if-is_some.false))))))
          c.loop-q.invariant
      | in_default-known_pair w ↦ each_more K T R N c.args.side s before p ps c.loop-q.q
          (each_none K T R N c.args.side s before p c.loop-q.q ps (read ∙ w.in_default-known_pair.is))
          c.loop-q.invariant
    ]

pub returns-clause-clear : goal.returns-clause-clear
returns-clause-clear g t c e =
    let K = g.W.Kind.weights in
    let T = tables_of g.W.Kind.stands c.args.self.now in
    let R = runs_of g.W.Kind.stands c.args.self.now in
    let N = entry_of c.args.self.now in
    let s = c.args.node.symbol in
    let before = take c.args.place c.args.node.children in
    subst (ClearOver K T R N c.args.side s before) (sym c.in-Some.ensures.cases.0)
    (each_all K T R N c.args.side s c.requires.within before c.in-Some.state.now c.in-Some.rest.now c.loop-q.q (omega arith) c.loop-q.invariant)
