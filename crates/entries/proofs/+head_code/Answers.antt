-- The head of a recipe is that of its right part, which is lower.
use Rattle.std.proofs.Common.{ℕ, ◌+◌, ◌-◌, ◌≤◌, ◌≡◌, refl, sym, ◌∙◌, ap, true, false, List, arith}
use borrow.Author.Tests.{ne_eqb, lt-ltb, le-ltb}
use lib.Dec.{eqb}
use Rattle.calculus.specs.Formula.{Fits, usable}
use Rattle.card.specs.Format.{node_count, kind_at, left_at}
use Rattle.card.specs.Fault.{Sound, clause_part}
use Rattle.card.specs.Decode.{clause_of, scope_of}
use Rattle.entries.specs.Inner.Entries.{code_fits, HeadCode}
use Rattle.card.proofs.CardChecked.{sound_front}
use Rattle.card.proofs.SoundNodes.{usable_name, name_low}
use Rattle.scope.proofs.PartsOfClauses.{below, here, part_call, recipe_part, recipe_same, other_headless}
use Rattle.entries.proofs.+head_code.Goals as goal

-- clauses that can be used for the same names have the same code
head_of : {bs : List ℕ} {i j c : ℕ} → ((fits : Fits) (a : ℕ) → usable fits a (clause_of bs i) ≡ usable fits a (clause_of bs j))
    → HeadCode bs i c → HeadCode bs j c
head_of {bs} e t = record { small = t.small; menu = t.menu; tells = λ a h. t.tells a h ∙ e (scope_of bs).fits a }

-- the code of a name, of a menu, and of a clause without a head
module _ {bs : List ℕ} (s : Sound bs) (i : ℕ) (p : clause_part bs (node_count bs) i ≡ true) where
  named : (c : ℕ) → kind_at bs i ≡ 1 → c ≡ left_at bs i → HeadCode bs i c
  unfolding scope_of code_fits
  named c k e =
      let low : c ≤ 999 = omega (arith, name_low s i (below s i p) k) in
      record {
        small = omega arith;
        menu = λ h. absurd (omega arith);
        tells = λ a h. rw (lt-ltb c 1001 (omega arith)) (ap (λ n. eqb n a) e ∙ sym (usable_name bs i k (scope_of bs).fits a));
      }

  chosen : (c : ℕ) → c ≡ 1001 + i → HeadCode bs i c
  unfolding code_fits
  chosen c e =
      let few = (sound_front bs s).few in
      let back : c - 1001 ≡ i = omega arith in
      record {
        small = omega (arith, below s i p, few);
        menu = λ h. rw back p;
        tells = λ a h. rw (le-ltb c 1001 (omega arith)) (ap (λ n. usable (scope_of bs).fits a (clause_of bs n)) back);
      }

  headless : ((fits : Fits) (a : ℕ) → false ≡ usable fits a (clause_of bs i)) → HeadCode bs i 1000
  unfolding code_fits
  headless none = record {
    small = omega arith;
    menu = λ h. absurd (omega arith);
    tells = λ a h. ne_eqb 1000 a (λ q. omega arith) ∙ none (scope_of bs).fits a;
  }

pub kind_of-requires : goal.kind_of-requires
kind_of-requires t c = here c.requires.sound c.args.node c.requires.a_clause

pub right-requires : goal.right-requires
right-requires t c = here c.requires.sound c.args.node c.requires.a_clause

pub left-requires : goal.left-requires
left-requires t c = here c.requires.sound c.args.node c.requires.a_clause

pub head_code-requires : goal.head_code-requires
head_code-requires t c =
    let q = c.requires in
    part_call q.sound _ q.a_clause (recipe_part q.sound _ q.a_clause c.in-Recipe.ensures c.right.ensures.0) c.decreases

pub returns-in-Recipe : goal.returns-in-Recipe
returns-in-Recipe t c =
    head_of (recipe_same c.requires.sound _ c.requires.a_clause c.in-Recipe.ensures c.right.ensures.0) c.head_code.ensures

pub returns-in-Atom : goal.returns-in-Atom
returns-in-Atom t c = named c.requires.sound _ c.requires.a_clause _ c.in-Atom.ensures c.left.ensures.0

pub overflow_cast-result-in-Menu : goal.overflow_cast-result-in-Menu
overflow_cast-result-in-Menu t c =
    let few = (sound_front c.args.card.now c.requires.sound).few in
    let low = below c.requires.sound c.args.node c.requires.a_clause in
    omega (arith, few, low)

pub returns-in-Menu : goal.returns-in-Menu
returns-in-Menu t c = chosen c.requires.sound _ c.requires.a_clause _ refl

pub returns-in_default : goal.returns-in_default
returns-in_default t c =
    headless c.requires.sound _ c.requires.a_clause
    (other_headless c.requires.sound _ c.requires.a_clause _ c.kind_of.ensures c.in_default.not-Atom c.in_default.not-Recipe
    c.in_default.not-Menu)
