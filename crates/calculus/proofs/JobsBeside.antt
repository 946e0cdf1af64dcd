-- Two jobs side by side: a list of each, its entries renumbered, one behind the other, is a list of the job that holds both.
use Prim.Native.Nat.{ℕ, max, ◌+◌, ◌≤◌}
use native.Mathlib.Omega.{arith}
use mathlib.Core.Path.{◌≡◌, refl, sym, ap, ◌∙◌, subst}
use mathlib.Core.Logic.{⊎_elim}
use mathlib.Core.Bool.{Bool, true, false, ◌&&◌, ◌||◌}
use mathlib.Core.List.{List, ◌++◌}
use lib.ListN.{length, length-append}
use Rattle.calculus.specs.Formula.{Goal}
use Rattle.calculus.specs.Items.{Items, ◌∪◌, Splits, Within}
use Rattle.calculus.specs.Steps.{nesting}
use Rattle.calculus.specs.Job.{Job, Listed}
use Rattle.calculus.specs.Inner.Renaming.{Image, Renamed, over, Beside}
use Rattle.calculus.proofs.SetLaws.{or_right, ∪_cases}
use Rattle.calculus.proofs.RenamingKeeps.{pushed, image_pushed, image_back, rename, renamed_⊗, listed_by, over_length}

-- items of the one or the other
in_left : (I J : Items) (x : ℕ) → I x ≡ true → (I ∪ J) x ≡ true
unfolding ◌∪◌
in_left I J x h = ap (λ (b : Bool). b || J x) h

in_right : (I J : Items) (x : ℕ) → J x ≡ true → (I ∪ J) x ≡ true
unfolding ◌∪◌
in_right I J x h = or_right (I x) (J x) h

-- two sets with no item in common are the shares of their union
apart_splits : (I J : Items) → ((x : ℕ) → I x ≡ true → J x ≡ true → ⊥) → Splits (I ∪ J) I J
unfolding ◌∪◌
apart_splits I J n = record { whole = λ x. refl; apart = λ x. go (I x) (J x) (n x) }
  where
    go : (b c : Bool) → (b ≡ true → c ≡ true → ⊥) → (b && c) ≡ false
    go true true h = absurd (h refl refl)
    go true false h = refl
    go false c h = refl

module _ {i j k : Job} {f g h e : ℕ → ℕ} (b : Beside i j k f g h e) {l m : List ℕ} (x : Listed i l) (y : Listed j m) where
  abbrev I : Items
  I = pushed f g x.derivation.items

  abbrev J : Items
  J = pushed h e y.derivation.items

  first_image : Image f g x.derivation.items I
  first_image = image_pushed f g b.first.undone x.derivation.items

  second_image : Image h e y.derivation.items J
  second_image = image_pushed h e b.second.undone y.derivation.items

  -- each item comes from a line of one of the two
  first_line : (z : ℕ) → I z ≡ true → (i.strict ∪ i.lax) (g z) ≡ true
  first_line z t = x.derivation.none_else.kept (g z) (image_back first_image z t)

  second_line : (z : ℕ) → J z ≡ true → (j.strict ∪ j.lax) (e z) ≡ true
  second_line z t = y.derivation.none_else.kept (e z) (image_back second_image z t)

  shares : Splits (I ∪ J) I J
  shares =
      apart_splits I J
      (λ z s t. b.apart (g z) (e z) (first_line z s) (second_line z t) (first_image.sole z s ∙ sym (second_image.sole z t)))

  all_strict : Within k.strict (I ∪ J)
  all_strict = record { kept = λ z t. ⊎_elim (from_first z) (from_second z) (b.strict_from z t) }
    where
      from_first : (z : ℕ) → (f (g z) ≡ z) × (i.strict (g z) ≡ true) → (I ∪ J) z ≡ true
      from_first z p =
          in_left I J z (ap I (sym p.0) ∙ first_image.taken (g z) ∙ x.derivation.all_strict.kept (g z) p.1)

      from_second : (z : ℕ) → (h (e z) ≡ z) × (j.strict (e z) ≡ true) → (I ∪ J) z ≡ true
      from_second z p =
          in_right I J z (ap J (sym p.0) ∙ second_image.taken (e z) ∙ y.derivation.all_strict.kept (e z) p.1)

  none_else : Within (I ∪ J) (k.strict ∪ k.lax)
  none_else =
      record {
        kept = λ z t. ⊎_elim
            (λ s. ap (k.strict ∪ k.lax) (sym (first_image.sole z s)) ∙ b.first_lines (g z) (first_line z s))
            (λ s. ap (k.strict ∪ k.lax) (sym (second_image.sole z s)) ∙ b.second_lines (e z) (second_line z s))
            (∪_cases I J z t);
      }

  -- the list: the first's renumbered, then the second's
  abbrev list : List ℕ
  list = over f x.derivation.tree ++ over h y.derivation.tree

  abbrev deepest : ℕ
  deepest = max (nesting x.derivation.tree) (nesting y.derivation.tree)

  both : Renamed k.scope (I ∪ J) k.goal list deepest
  both =
      subst (λ (G : Goal). Renamed k.scope (I ∪ J) G list deepest) b.both_goals_lem
      (renamed_⊗ shares (rename b.first first_image x.derivation.tree) (rename b.second second_image y.derivation.tree) refl)

  -- THEOREM. The list of the one with its entries renumbered and that of the other behind it are a list of the job in which both stand.
  pub beside_listed : length l + length m ≤ k.length_limit → Listed k list
  beside_listed short = listed_by all_strict none_else both shallow counted
    where
      shallow : deepest ≤ k.depth
      shallow = omega (arith, x.limited.nested, y.limited.nested, b.first_shallow, b.second_shallow)

      counted : length list ≤ k.length_limit
      counted =
          let c = x.derivation.tree in
          let d = y.derivation.tree in
          omega (arith, length-append (over f c) (over h d), over_length f c, over_length h d, ap length x.list, ap length y.list)
