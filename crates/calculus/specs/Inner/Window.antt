-- Windows: strict items must be taken, lax items may be (RM3 of 000).
use Rattle.std.specs.Prelude.{ℕ, Bool, false, cond, List}
use Rattle.calculus.specs.Formula.{Goal}
use Rattle.calculus.specs.Items.{Items, ◌∪◌, ◌∖◌, Within}
use Rattle.calculus.specs.Derivation.{Scope}
use Rattle.calculus.specs.Inner.Summary.{spare, Covers, Sum, ByList}

-- l counts for strict S and lax L: it takes no other items and, without slack, all strict ones
pub record Counts (n : ℕ) (es : Scope) (G : Goal) (S L : Items) (l : List ℕ) : Type 0 where
  pub used : Items
  pub slack : Bool
  pub sum : Sum n es G l used slack
  pub within : Within used (S ∪ L)
  pub all_strict : Covers (spare es slack) used S

-- l derives G from some items that hold all strict ones and none but strict and lax ones
pub record Between (n : ℕ) (es : Scope) (G : Goal) (S L : Items) (l : List ℕ) : Type 0 where
  pub items : Items
  pub all_strict : Within S items
  pub none_else : Within items (S ∪ L)
  pub derived : ByList n es items G l

-- The strict and lax items of the right part of a ⊗ whose left part took U, with R spare: what is spare is strict no more.
unfoldable pub tensor_strict : Items → Items → Items → Items
tensor_strict R S U i = cond (R i) false ((S ∖ U) i)

unfoldable pub tensor_lax : Items → Items → Items → Items → Items
tensor_lax R S L U i = cond (R i) (((S ∪ L) ∖ U) i) ((L ∖ U) i)

-- The strict and lax items of the right part of a & whose left part took U, with R spare: what is spare is as before, of the rest U alone.
unfoldable pub with_strict : Items → Items → Items → Items
with_strict R S U i = cond (R i) ((S ∪ U) i) (U i)

unfoldable pub with_lax : Items → Items → Items → Items
with_lax R L U i = cond (R i) ((L ∖ U) i) false
