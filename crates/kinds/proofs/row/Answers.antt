-- `row` meets its contract: each kind's row stands in the table at the kind's number.
use Rattle.std.proofs.Common.{refl, ⊎_elim}
use Rattle.card.specs.Kinds.{kind_of, kinds}
use Rattle.card.specs.Fault.{given, is_goal, is_clause}
use Rattle.card.proofs.KindsByRow.{past_last}
use Rattle.kinds.proofs.row.Goals as goal

pub returns-in-Atom : goal.returns-in-Atom
unfolding kind_of kinds is_goal is_clause given
returns-in-Atom c = rw c.in-Atom.ensures (refl, refl, refl, refl)

pub returns-in-Top : goal.returns-in-Top
unfolding kind_of kinds is_goal is_clause given
returns-in-Top c = rw c.in-Top.ensures (refl, refl, refl, refl)

pub returns-in-One : goal.returns-in-One
unfolding kind_of kinds is_goal is_clause given
returns-in-One c = rw c.in-One.ensures (refl, refl, refl, refl)

pub returns-in-Tensor : goal.returns-in-Tensor
unfolding kind_of kinds is_goal is_clause given
returns-in-Tensor c = rw c.in-Tensor.ensures (refl, refl, refl, refl)

pub returns-in-With : goal.returns-in-With
unfolding kind_of kinds is_goal is_clause given
returns-in-With c = rw c.in-With.ensures (refl, refl, refl, refl)

pub returns-in-Lend : goal.returns-in-Lend
unfolding kind_of kinds is_goal is_clause given
returns-in-Lend c = rw c.in-Lend.ensures (refl, refl, refl, refl)

pub returns-in-Recipe : goal.returns-in-Recipe
unfolding kind_of kinds is_goal is_clause given
returns-in-Recipe c = rw c.in-Recipe.ensures (refl, refl, refl, refl)

pub returns-in-Oplus : goal.returns-in-Oplus
unfolding kind_of kinds is_goal is_clause given
returns-in-Oplus c = rw c.in-Oplus.ensures (refl, refl, refl, refl)

pub returns-in-Zero : goal.returns-in-Zero
unfolding kind_of kinds is_goal is_clause given
returns-in-Zero c = rw c.in-Zero.ensures (refl, refl, refl, refl)

pub returns-in-Menu : goal.returns-in-Menu
unfolding kind_of kinds is_goal is_clause given
returns-in-Menu c = rw c.in-Menu.ensures (refl, refl, refl, refl)

pub returns-in-Unknown : goal.returns-in-Unknown
unfolding kind_of kinds is_goal is_clause given
returns-in-Unknown c =
    ⊎_elim (λ e. rw e (refl, refl, refl, refl)) (λ h. rw (past_last c.args.k h) (refl, refl, refl, refl)) c.in-Unknown.ensures
