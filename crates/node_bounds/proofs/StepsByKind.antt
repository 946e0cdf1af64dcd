-- What each kind makes of a node's bounds.
use Rattle.std.proofs.Common.{◌≡◌, ◌⊎◌, inl, inr, ℕ, suc, ◌+◌, ◌-◌, ◌<◌, ◌≤◌, min, max, Bool, true, false, cond, List, leb, refl, arith}
use Rattle.std.proofs.Common.{leb-true, leb-false}
use Rattle.std.specs.Int.{from_bool}
use Rattle.card.specs.Format.{node_count, kind_at, left_at, right_at}
use Rattle.card.specs.Kinds.{Numbered}
use Rattle.card.specs.declared.kinds.Kind as code
use Rattle.card.specs.declared.kinds.Kind.TheVariants as kind
use Rattle.card.specs.Fault.{Sound}
use Rattle.lines.specs.Count.{bit}
use Rattle.bounds.specs.Inner.Bound.{off}
use Rattle.bounds.specs.Inner.Table.{head_at, row_of, low_at, high_at, least_at, by_kind, if_recipe, in_class, menu_code, head_step, least_step}
use Rattle.bounds.specs.Inner.Table.{low_step, high_step}
use Rattle.node_bounds.proofs.KindsNamed.{along, unknown_none}

one_more : (n : ℕ) → suc n ≡ 1 + n
one_more n = omega arith

module _ (bs names t : List ℕ) (i : ℕ) where
  pub head_name : kind_at bs i ≡ 1 → head_step bs names i ≡ left_at bs i
  unfolding head_step by_kind
  head_name k = rw k refl

  pub head_recipe : kind_at bs i ≡ 7 → head_step bs names i ≡ head_at names (right_at bs i)
  unfolding head_step by_kind
  head_recipe k = rw k refl

  pub head_menu : kind_at bs i ≡ 10 → head_step bs names i ≡ menu_code (head_at names (left_at bs i)) (head_at names (right_at bs i))
  unfolding head_step by_kind
  head_menu k = rw k refl

  pub least_name : kind_at bs i ≡ 1 → least_step bs names t i ≡ least_at t (row_of names (left_at bs i))
  unfolding least_step by_kind
  least_name k = rw k refl

  pub least_lend : kind_at bs i ≡ 6 → least_step bs names t i ≡ least_at t (right_at bs i)
  unfolding least_step by_kind
  least_lend k = rw k refl

  pub least_recipe : kind_at bs i ≡ 7 → least_step bs names t i ≡ least_at t (left_at bs i) + if_recipe bs (right_at bs i) (least_at t (right_at bs i))
  unfolding least_step by_kind
  least_recipe k = rw k refl

  pub least_one_of : kind_at bs i ≡ 8 → least_step bs names t i ≡ 1 + min (least_at t (left_at bs i)) (least_at t (right_at bs i))
  unfolding least_step by_kind
  least_one_of k = rw k (one_more _)

  pub least_never : kind_at bs i ≡ 9 → least_step bs names t i ≡ 255
  unfolding least_step by_kind
  least_never k = rw k refl

  pub least_pair : {k : code.Kind} → (k ≡ kind.Tensor) ⊎ (k ≡ kind.With)
      → Numbered k (kind_at bs i) → least_step bs names t i ≡ least_at t (left_at bs i) + least_at t (right_at bs i)
  unfolding least_step by_kind
  least_pair (inl e) n = let q : kind_at bs i ≡ 4 = along _ e n in rw q refl
  least_pair (inr e) n = let q : kind_at bs i ≡ 5 = along _ e n in rw q refl

  module _ (c : ℕ) where
    pub low_name : kind_at bs i ≡ 1 → low_step bs names t i c ≡ low_at t (row_of names (left_at bs i)) c
    unfolding low_step by_kind
    low_name k = rw k refl

    pub low_both : kind_at bs i ≡ 4 → low_step bs names t i c ≡ low_at t (left_at bs i) c + low_at t (right_at bs i) c
    unfolding low_step by_kind
    low_both k = rw k refl

    pub low_either : kind_at bs i ≡ 5 → low_step bs names t i c ≡ max (low_at t (left_at bs i) c) (low_at t (right_at bs i) c)
    unfolding low_step by_kind
    low_either k = rw k refl

    pub low_lend : kind_at bs i ≡ 6 → low_step bs names t i c ≡ low_at t (right_at bs i) c - bit (in_class names (left_at bs i) c)
    unfolding low_step by_kind
    low_lend k = rw k refl

    pub low_recipe : kind_at bs i ≡ 7 → low_step bs names t i c ≡ low_at t (left_at bs i) c + if_recipe bs (right_at bs i) (low_at t (right_at bs i) c)
    unfolding low_step by_kind
    low_recipe k = rw k refl

    pub low_one_of : kind_at bs i ≡ 8 → low_step bs names t i c ≡ min (low_at t (left_at bs i) c) (low_at t (right_at bs i) c)
    unfolding low_step by_kind
    low_one_of k = rw k refl

    pub low_never : kind_at bs i ≡ 9 → low_step bs names t i c ≡ 255
    unfolding low_step by_kind
    low_never k = rw k refl

    pub high_name : kind_at bs i ≡ 1 → high_step bs names t i c ≡ high_at t (row_of names (left_at bs i)) c
    unfolding high_step by_kind
    high_name k = rw k refl

    pub high_rest : kind_at bs i ≡ 2 → high_step bs names t i c ≡ 255
    unfolding high_step by_kind
    high_rest k = rw k refl

    pub high_both : kind_at bs i ≡ 4 → high_step bs names t i c ≡ high_at t (left_at bs i) c + high_at t (right_at bs i) c
    unfolding high_step by_kind
    high_both k = rw k refl

    pub high_either : kind_at bs i ≡ 5 → high_step bs names t i c ≡ min (high_at t (left_at bs i) c) (high_at t (right_at bs i) c)
    unfolding high_step by_kind
    high_either k = rw k refl

    pub high_lend : kind_at bs i ≡ 6 → high_step bs names t i c ≡ off (high_at t (right_at bs i) c) (in_class names (left_at bs i) c)
    unfolding high_step by_kind
    high_lend k = rw k refl

    pub high_recipe : kind_at bs i ≡ 7
        → high_step bs names t i c ≡ high_at t (left_at bs i) c + if_recipe bs (right_at bs i) (high_at t (right_at bs i) c)
    unfolding high_step by_kind
    high_recipe k = rw k refl

    pub high_one_of : kind_at bs i ≡ 8 → high_step bs names t i c ≡ max (high_at t (left_at bs i) c) (high_at t (right_at bs i) c)
    unfolding high_step by_kind
    high_one_of k = rw k refl

  -- what stands for the other kinds; a sound card has no unknown one
  module _ (s : Sound bs) (h : i < node_count bs) {k : code.Kind} where
    pub head_none : (k ≡ kind.Top) ⊎ ((k ≡ kind.One) ⊎ ((k ≡ kind.Tensor) ⊎ ((k ≡ kind.With)
        ⊎ ((k ≡ kind.Lend) ⊎ ((k ≡ kind.Oplus) ⊎ ((k ≡ kind.Zero) ⊎ (k ≡ kind.Unknown)))))))
        → Numbered k (kind_at bs i) → head_step bs names i ≡ 1000
    unfolding head_step by_kind
    head_none (inl e) n = let q : kind_at bs i ≡ 2 = along _ e n in rw q refl
    head_none (inr (inl e)) n = let q : kind_at bs i ≡ 3 = along _ e n in rw q refl
    head_none (inr (inr (inl e))) n = let q : kind_at bs i ≡ 4 = along _ e n in rw q refl
    head_none (inr (inr (inr (inl e)))) n = let q : kind_at bs i ≡ 5 = along _ e n in rw q refl
    head_none (inr (inr (inr (inr (inl e))))) n = let q : kind_at bs i ≡ 6 = along _ e n in rw q refl
    head_none (inr (inr (inr (inr (inr (inl e)))))) n = let q : kind_at bs i ≡ 8 = along _ e n in rw q refl
    head_none (inr (inr (inr (inr (inr (inr (inl e))))))) n = let q : kind_at bs i ≡ 9 = along _ e n in rw q refl
    head_none (inr (inr (inr (inr (inr (inr (inr e))))))) n = absurd (unknown_none s h (along _ e n))

    pub least_none : (k ≡ kind.Top) ⊎ ((k ≡ kind.One) ⊎ ((k ≡ kind.Menu) ⊎ (k ≡ kind.Unknown)))
        → Numbered k (kind_at bs i) → least_step bs names t i ≡ 0
    unfolding least_step by_kind
    least_none (inl e) n = let q : kind_at bs i ≡ 2 = along _ e n in rw q refl
    least_none (inr (inl e)) n = let q : kind_at bs i ≡ 3 = along _ e n in rw q refl
    least_none (inr (inr (inl e))) n = let q : kind_at bs i ≡ 10 = along _ e n in rw q refl
    least_none (inr (inr (inr e))) n = absurd (unknown_none s h (along _ e n))

    pub low_none : (c : ℕ) → (k ≡ kind.Top) ⊎ ((k ≡ kind.One) ⊎ ((k ≡ kind.Menu) ⊎ (k ≡ kind.Unknown)))
        → Numbered k (kind_at bs i) → low_step bs names t i c ≡ 0
    unfolding low_step by_kind
    low_none c (inl e) n = let q : kind_at bs i ≡ 2 = along _ e n in rw q refl
    low_none c (inr (inl e)) n = let q : kind_at bs i ≡ 3 = along _ e n in rw q refl
    low_none c (inr (inr (inl e))) n = let q : kind_at bs i ≡ 10 = along _ e n in rw q refl
    low_none c (inr (inr (inr e))) n = absurd (unknown_none s h (along _ e n))

    pub high_none : (c : ℕ) → (k ≡ kind.One) ⊎ ((k ≡ kind.Zero) ⊎ ((k ≡ kind.Menu) ⊎ (k ≡ kind.Unknown)))
        → Numbered k (kind_at bs i) → high_step bs names t i c ≡ 0
    unfolding high_step by_kind
    high_none c (inl e) n = let q : kind_at bs i ≡ 3 = along _ e n in rw q refl
    high_none c (inr (inl e)) n = let q : kind_at bs i ≡ 9 = along _ e n in rw q refl
    high_none c (inr (inr (inl e))) n = let q : kind_at bs i ≡ 10 = along _ e n in rw q refl
    high_none c (inr (inr (inr e))) n = absurd (unknown_none s h (along _ e n))

-- a greatest number less an item
pub off_less : (h r : ℕ) (b : Bool) → (h < 255 → r ≡ h - bit b) → (255 ≤ h → r ≡ h) → r ≡ off h b
unfolding off
off_less h r b p q = at (leb 255 h) refl
  where
    at : (c : Bool) → leb 255 h ≡ c → r ≡ cond c h (h - bit b)
    at true e = q (leb-true 255 h e)
    at false e = p (leb-false 255 h e)

-- What stays below 512. Stated here, since omega is slow among all the facts at a place of the code.
pub byte_small : (a : ℕ) → a < 256 → a < 512
byte_small a h = omega arith

pub under_small : (a b : ℕ) → a ≤ b → b < 256 → a < 512
under_small a b l h = omega arith

pub less_small : (a b : ℕ) → a < 256 → a - b < 512
less_small a b h = omega arith

pub sum_small : (a b : ℕ) → a < 256 → b < 256 → a + b < 512
sum_small a b h l = omega arith

pub part_small : (a b d : ℕ) → a < 256 → b ≤ d → d < 256 → a + b < 512
part_small a b d h l m = omega arith

pub min_small : (a b : ℕ) → a < 256 → min a b < 512
min_small a b h = omega arith

pub choice_small : (a b : ℕ) → a < 256 → 1 + min a b < 512
choice_small a b h = omega arith

pub max_small : (a b : ℕ) → a < 256 → b < 256 → max a b < 512
max_small a b h l = omega arith

pub zero_small : 0 < 512
zero_small = omega arith

pub top_small : 255 < 512
top_small = omega arith

-- a truth value as a number
pub bit_of : (b : Bool) → from_bool b ≡ bit b
unfolding bit
bit_of true = refl
bit_of false = refl

pub bit_small : (b : Bool) → bit b ≤ 1
unfolding bit
bit_small true = omega arith
bit_small false = omega arith
