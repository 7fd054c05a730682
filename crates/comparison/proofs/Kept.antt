-- What stays of a work list whose marks alone were changed.
use Rattle.std.proofs.Common.{◌≡◌, ℕ, zero, suc, ◌+◌, ◌<◌, List, [], ◌∷◌, ◌++◌, map, length, get_or, take, drop, set, Option, sym, refl, ap, ◌∙◌, subst, arith}
use Rattle.std.proofs.lemmas.List.{take-append-drop, map-append, get_or_append_left, length-map, length-take, map-set, set-get_or, get_or-map, get_or-take}
use Rattle.trees.specs.declared.node.Node.{Node}
use Rattle.trees.specs.Lists.{blank, GoodAt}
use Rattle.rules.specs.declared.place.Place.{Place}
use Rattle.comparison.specs.Forest.{nodes}
use Rattle.comparison.specs.Marking.{sign, marks, unmarked, Kept, Entries}

nodes_unmarked : {V : Type 0} (work : List (Place V)) (len : ℕ) → nodes (map unmarked work) len ≡ nodes work len
nodes_unmarked work zero = refl
nodes_unmarked [] (suc len) = refl
nodes_unmarked (p ∷ work) (suc len) = ap (λ ns. p.node ∷ ns) (nodes_unmarked work len)

-- reading a mark and a node, and setting a mark
module _ {V : Type 0} (work : List (Place V)) (i : ℕ) (d : Place V) where
  pub mark_read : i < length work → sign (get_or work i d).mark ≡ get_or (marks work) i 0
  mark_read h = sym (get_or-map (λ p. sign p.mark) work i d 0 h)

  pub node_read : i < length work → (len : ℕ) → i < len → (get_or work i d).node ≡ get_or (nodes work len) i blank
  node_read h len l =
      ap (λ (p : Place V). p.node) (sym (get_or-take len work i d l)) ∙ sym (get_or-map (λ p. p.node) (take len work) i d blank (omega (arith, length-take len work)))

  abbrev remarked : Option ℕ → Place V
  remarked v = record { node = (get_or work i d).node; first = (get_or work i d).first; second = (get_or work i d).second; mark = v }

  pub mark_put : (v : Option ℕ) → marks (set work i (remarked v)) ≡ set (marks work) i (sign v)
  mark_put v = map-set (λ p. sign p.mark) work i (remarked v)

  pub mark_keeps : (v : Option ℕ) → Kept work (set work i (remarked v))
  mark_keeps v = map-set unmarked work i (remarked v) ∙ sym (map-set unmarked work i (get_or work i d)) ∙ ap (map unmarked) (set-get_or work i d)

pub length_marks : {V : Type 0} (work : List (Place V)) → length (marks work) ≡ length work
length_marks work = length-map work (λ p. sign p.mark)

module _ {V : Type 0} (work work' : List (Place V)) (kept : Kept work work') where
  pub kept_length : length work' ≡ length work
  kept_length = sym (length-map work' unmarked) ∙ ap length kept ∙ length-map work unmarked

  pub kept_nodes : (len : ℕ) → nodes work' len ≡ nodes work len
  kept_nodes len = sym (nodes_unmarked work' len) ∙ ap (λ w. nodes w len) kept ∙ nodes_unmarked work len

  pub kept_entries : (ranks : List ℕ) (top : ℕ) → Entries ranks work top → Entries ranks work' top
  kept_entries ranks top E = record {
    within = omega (arith, kept_length, E.within);
    good = subst (λ (ns : List Node). (i : ℕ) → i < top + 1 → GoodAt ranks ns i) (sym (kept_nodes (top + 1))) E.good;
  }

-- the first n places were written over, and their marks alone were changed
pub kept_front : {V : Type 0} (work items : List (Place V)) (n : ℕ) → Kept (take n work) items → Kept work (items ++ drop n work)
kept_front work items n kept =
    map-append unmarked items (drop n work) ∙ ap (λ xs. xs ++ map unmarked (drop n work)) kept ∙ sym (map-append unmarked (take n work) (drop n work)) ∙ ap (map unmarked) (take-append-drop n work)

pub marks_front : {V : Type 0} (work items : List (Place V)) (n i : ℕ) → i < length items → get_or (marks (items ++ drop n work)) i 0 ≡ get_or (marks items) i 0
marks_front work items n i h =
    ap (λ m. get_or m i 0) (map-append (λ p. sign p.mark) items (drop n work)) ∙ get_or_append_left (marks items) (marks (drop n work)) 0 i (omega (arith, length_marks items))
