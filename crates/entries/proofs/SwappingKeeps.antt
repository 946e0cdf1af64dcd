-- Swapping two lines of one clause, where the first is must if the second is, and the second is used.
use Prim.Native.Nat.{ℕ, ◌+◌, ◌≤◌, ◌<◌}
use mathlib.Core.Path.{◌≡◌, sym, ap, ◌∙◌, subst}
use mathlib.Core.Bool.{true}
use mathlib.Core.List.{List, map}
use native.Mathlib.Omega.{arith}
use lib.ListN.{length}
use Rattle.calculus.specs.Items.{Items, ◌∪◌, Within}
use Rattle.calculus.specs.Derivation.{size, clause_at, linear_at}
use Rattle.calculus.specs.Steps.{steps, stands, left_choice, right_choice}
use Rattle.calculus.specs.Job.{Job, Derivation, Limited, Listed}
use Rattle.calculus.specs.Inner.Renaming.{Renaming, Image, over, swap}
use Rattle.calculus.proofs.RenamingKeeps.{rename, over_steps, over_length, pushed, image_pushed}
use Rattle.calculus.proofs.RenamingKeeps.{swap_other, swap_cases, swap_swap, swap_keeps, swap_within}
use Rattle.calculus.proofs.ItemsListed.{used_item}

-- Swapping

-- x and y are linear entries of the scope, no choices, with the same clause; x is a line if y is one, and must if y is.
pub record WiderLine (j : Job) (x y : ℕ) : Type 0 where
  pub x_within : x < size j.scope
  pub y_within : y < size j.scope
  pub x_no_choice : x < left_choice
  pub y_no_choice : y < left_choice
  pub same_clause : clause_at j.scope x ≡ clause_at j.scope y
  pub x_linear : linear_at j.scope x ≡ true
  pub y_linear : linear_at j.scope y ≡ true
  pub strict : j.strict y ≡ true → j.strict x ≡ true
  pub line : (j.strict ∪ j.lax) y ≡ true → (j.strict ∪ j.lax) x ≡ true

module _ (j : Job) (x y : ℕ) (w : WiderLine j x y) where
  swapped_scope : Renaming j.scope j.scope (swap x y) (swap x y)
  swapped_scope =
      record {
        within = swap_within (size j.scope) x y w.x_within w.y_within;
        clause = λ e h. swap_keeps (clause_at j.scope) x y w.same_clause e;
        linear = λ e h. swap_keeps (linear_at j.scope) x y (w.x_linear ∙ sym w.y_linear) e;
        fit = λ b a h. h;
        undone = swap_swap x y;
        beyond = λ k. swap_other x y (size j.scope + k) (omega (arith, w.x_within)) (omega (arith, w.y_within));
      }

  module _ (I J : Items) (m : Image (swap x y) (swap x y) I J) (used : I y ≡ true) where
    back : (e : ℕ) → J e ≡ I (swap x y e)
    back e = ap J (sym (swap_swap x y e)) ∙ m.taken (swap x y e)

    strict_swapped : Within j.strict I → Within j.strict J
    strict_swapped s =
        record {
          kept = λ e h. back e ∙ swap_cases (λ a b. j.strict a ≡ true → I b ≡ true) x y (λ _. used) (λ k. s.kept x (w.strict k))
              (λ a _ _ k. s.kept a k) e h;
        }

    lines_swapped : Within I (j.strict ∪ j.lax) → Within J (j.strict ∪ j.lax)
    lines_swapped s =
        let y_line = s.kept y used in
        record {
          kept = λ e h.
              swap_cases (λ a b. I b ≡ true → (j.strict ∪ j.lax) a ≡ true) x y (λ _. w.line y_line) (λ _. y_line)
              (λ a _ _ k. s.kept a k) e (sym (back e) ∙ h);
        }

  swapped_listed : (d : Derivation j) → Limited j d → stands y (steps d.tree) ≡ true → Listed j (over (swap x y) d.tree)
  swapped_listed d l t =
      let f = swap x y in
      let J = pushed f f d.items in
      let m : Image f f d.items J = image_pushed f f (swap_swap x y) d.items in
      let z = rename swapped_scope m d.tree in
      let used = used_item y w.y_no_choice w.y_within w.y_linear d.tree t in
      record {
        derivation =
            record {
              items = J;
              all_strict = strict_swapped d.items J m used d.all_strict;
              none_else = lines_swapped d.items J m used d.none_else;
              tree = z.tree;
            };
        limited =
            record {
              nested = omega (arith, z.depth, l.nested);
              counted = omega (arith, ap length z.list, over_length f d.tree, l.counted);
            };
        list = z.list;
      }

-- THEOREM. In a list that has y the wider line x and y may be swapped, whether or not x stands in it.
pub swap_wider : (j : Job) (x y : ℕ) → WiderLine j x y → (l : List ℕ) → Listed j l → stands y l ≡ true → Listed j (map (swap x y) l)
swap_wider j x y w l m t =
    subst (Listed j)
    (over_steps (swap x y) (kept left_choice (omega arith)) (kept right_choice (omega arith)) m.derivation.tree
    ∙ ap (map (swap x y)) m.list)
    (swapped_listed j x y w m.derivation m.limited (ap (stands y) m.list ∙ t))
  where
    kept : (c : ℕ) → left_choice ≤ c → swap x y c ≡ c
    kept c h = swap_other x y c (λ e. omega (arith, e, h, w.x_no_choice)) (λ e. omega (arith, e, h, w.y_no_choice))
