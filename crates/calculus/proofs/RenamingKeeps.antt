-- Renaming: a derivation goes over along a map of entries that keeps clauses and linearity, its steps mapped. Equal lines may be swapped.
use Prim.Native.Nat.{ℕ, zero, suc, max, ◌+◌, ◌≤◌, ◌<◌}
use mathlib.Core.Path.{◌≡◌, refl, sym, ap, ap₂, ◌∙◌, subst}
use mathlib.Core.Logic.{◌≢◌, ◌⊎◌, inl, inr, ⊎_elim, ite, if_pos, if_neg}
use mathlib.Core.Bool.{Bool, true, false, not, ◌&&◌, ◌||◌, true≢false}
use mathlib.Core.List.{List, [], ◌∷◌, ◌++◌, map, map-append}
use native.Mathlib.Decide.{ℕ_discrete, dec_lt}
use native.Mathlib.Nat.{add-zero}
use native.Mathlib.Omega.{arith}
use lib.Dec.{T, eqb, eqb→eq, eqb_refl}
use lib.ListN.{length, length-append, get_or-append, get_or-eq_default}
use lib.Seq.{get_or-append_seam}
use Rattle.calculus.specs.Formula.{Goal, Clause, Fits, atomᴳ, zeroᴳ, tensor, with, oplus, atomᴰ, topᴰ, lolliᴰ, withᴰ, matched}
use Rattle.calculus.specs.Formula.{residual, usable}
use Rattle.calculus.specs.Items.{Items, ◌∪◌, ◌∖◌, only, Empty, Splits, Within}
use Rattle.calculus.specs.Derivation.{Scope, Entry, no_entry, size, entry_at, clause_at, linear_at, residual_at, extend, lend, Derives, res_1, res_⊤}
use Rattle.calculus.specs.Derivation.{res_⊗, res_&, res_⊕₁, res_⊕₂, res_⊸, res_atm_int, res_atm_lin}
use Rattle.calculus.specs.Steps.{steps, nesting, left_choice, right_choice}
use Rattle.calculus.specs.Job.{Job, Derivation, Limited, Listed}
use Rattle.calculus.specs.Inner.Renaming.{Renaming, Image, over, Renamed, JobRenaming, swap}
use Rattle.calculus.proofs.SetLaws.{or_right, and_left}
use Rattle.calculus.proofs.SummaryExact.{lend_size}

-- An entry that is used

no_zero : {es : Scope} {I : Items} → Derives es I zeroᴳ → ⊥
no_zero d = elim d [ ]

left_part : {es : Scope} {I : Items} {G H : Goal} → Derives es I (tensor G H) → (J : Items) × Derives es J G
left_part (res_⊗ {J} s l r) = (J, l)

-- what is derived of ⊕ is derived of one of its parts
part_taken : {es : Scope} {I : Items} {G H : Goal} → Derives es I (oplus G H) → Derives es I G ⊎ Derives es I H
part_taken (res_⊕₁ d) = inl d
part_taken (res_⊕₂ d) = inr d

matched_true : {es : Scope} {I : Items} (b : Bool) → Derives es I (matched b) → b ≡ true
unfolding matched
matched_true true d = refl
matched_true false d = absurd (no_zero d)

-- THEOREM. Only a clause with a head that fits can be used.
pub used_usable : {es : Scope} {I : Items} (fits : Fits) (a : ℕ) (D : Clause) → Derives es I (residual fits a D) → usable fits a D ≡ true
unfolding residual usable
used_usable fits a (atomᴰ b) d = matched_true (fits b a) d
used_usable fits a topᴰ d = absurd (no_zero d)
used_usable {I = I} fits a (lolliᴰ G D) d = used_usable {I = (left_part d).0} fits a D (left_part d).1
used_usable fits a (withᴰ D E) d =
    ⊎_elim (λ c. ap (λ (b : Bool). b || usable fits a E) (used_usable fits a D c))
    (λ c. or_right (usable fits a D) (usable fits a E) (used_usable fits a E c)) (part_taken d)

pub entry_past : (es : Scope) (e : ℕ) → size es ≤ e → entry_at es e ≡ no_entry
unfolding size entry_at
entry_past es e h = get_or-eq_default es.entries no_entry h

-- THEOREM. An entry that is used is in scope.
pub in_scope : {es : Scope} {I : Items} (a e : ℕ) → Derives es I (residual_at es a e) → e < size es
unfolding residual residual_at clause_at
in_scope {es} {I} a e d = go (dec_lt e (size es))
  where
    go : Dec (e < size es) → e < size es
    go (yes h) = h
    go (no n) = absurd (no_zero (subst (λ (x : Entry). Derives es I (residual es.fits a x.clause)) (entry_past es e (omega arith)) d))

-- Maps of entries and of items

-- Laws of tests

same_truth : (a b : Bool) → (a ≡ true → b ≡ true) → (b ≡ true → a ≡ true) → a ≡ b
same_truth true b h k = sym (h refl)
same_truth false true h k = k refl
same_truth false false h k = refl

not_true : (b : Bool) → (b ≡ true → ⊥) → b ≡ false
not_true true h = absurd (h refl)
not_true false h = refl

absorbed : (a b : Bool) → (b ≡ true → a ≡ true) → (a && b) ≡ b
absorbed true b h = refl
absorbed false true h = h refl
absorbed false false h = refl

shared_whole : (j a b : Bool) → (j ≡ true → (a || b) ≡ true) → j ≡ (j && a || j && b)
shared_whole true a b h = sym (h refl)
shared_whole false a b h = refl

shared_apart : (j a b : Bool) → (a && b) ≡ false → ((j && a) && (j && b)) ≡ false
shared_apart true a b h = h
shared_apart false a b h = refl

truth : (b : Bool) → T b → b ≡ true
truth true t = refl
truth false t = absurd t

eqb_true : (m n : ℕ) → eqb m n ≡ true → m ≡ n
eqb_true m n h = eqb→eq m n (subst T (sym h) tt)

true_eqb : (m n : ℕ) → m ≡ n → eqb m n ≡ true
true_eqb m n h = truth (eqb m n) (subst (λ (k : ℕ). T (eqb m k)) h (eqb_refl m))

-- f keeps numbers apart, since g undoes it
eqb_image : (f g : ℕ → ℕ) → ((e : ℕ) → g (f e) ≡ e) → (i e : ℕ) → eqb (f i) (f e) ≡ eqb i e
eqb_image f g u i e =
    same_truth (eqb (f i) (f e)) (eqb i e) (λ h. true_eqb i e (sym (u i) ∙ ap g (eqb_true (f i) (f e) h) ∙ u e))
    (λ h. true_eqb (f i) (f e) (ap f (eqb_true i e h)))

-- Images of item sets

splits_left : {I A B : Items} → Splits I A B → Within A I
splits_left {B} s = record { kept = λ i h. s.whole i ∙ ap (λ (b : Bool). b || B i) h }

splits_right : {I A B : Items} → Splits I A B → Within B I
splits_right {A} {B} s = record { kept = λ i h. s.whole i ∙ or_right (A i) (B i) h }

-- the items of J that come from A
share : (ℕ → ℕ) → Items → Items → Items
share g J A k = J k && A (g k)

module _ {f g : ℕ → ℕ} {I J : Items} (m : Image f g I J) where
  pub image_back : (k : ℕ) → J k ≡ true → I (g k) ≡ true
  image_back k h = sym (m.taken (g k)) ∙ ap J (m.sole k h) ∙ h

  image_empty : Empty I → Empty J
  image_empty v = record { vacant = λ k. not_true (J k) (λ h. true≢false (sym (image_back k h) ∙ v.vacant (g k))) }

  splits_share : {A B : Items} → Splits I A B → Splits J (share g J A) (share g J B)
  unfolding share
  splits_share {A} {B} s =
      record {
        whole = λ k. shared_whole (J k) (A (g k)) (B (g k)) (λ h. sym (s.whole (g k)) ∙ image_back k h);
        apart = λ k. shared_apart (J k) (A (g k)) (B (g k)) (s.apart (g k));
      }

  image_share : ((e : ℕ) → g (f e) ≡ e) → {A : Items} → Within A I → Image f g A (share g J A)
  unfolding share
  image_share u {A} w =
      record {
        taken = λ i. ap₂ ◌&&◌ (m.taken i) (ap A (u i)) ∙ absorbed (I i) (A i) (w.kept i);
        sole = λ k h. m.sole k (and_left (J k) (A (g k)) h);
      }

  image_less : ((e : ℕ) → g (f e) ≡ e) → (e : ℕ) → Image f g (I ∖ only e) (J ∖ only (f e))
  unfolding ◌∖◌ only
  image_less u e =
      record {
        taken = λ i. ap₂ (λ (a b : Bool). a && not b) (m.taken i) (eqb_image f g u i e);
        sole = λ k h. m.sole k (and_left (J k) (not (eqb k (f e))) h);
      }

  image_more : ((e : ℕ) → g (f e) ≡ e) → (e k : ℕ) → f e ≡ k → Image f g (I ∪ only e) (J ∪ only k)
  unfolding ◌∪◌ only
  image_more u e k q =
      record {
        taken = λ i. ap₂ ◌||◌ (m.taken i) (ap (eqb (f i)) (sym q) ∙ eqb_image f g u i e);
        sole = λ i h. go i (J i) refl h;
      }
    where
      go : (i : ℕ) (b : Bool) → J i ≡ b → (b || eqb i k) ≡ true → f (g i) ≡ i
      go i true h t = m.sole i h
      go i false h t = let p : i ≡ f e = eqb_true i k t ∙ sym q in ap (λ (x : ℕ). f (g x)) p ∙ ap f (u e) ∙ sym p

-- the images of the items of I
pub pushed : (ℕ → ℕ) → (ℕ → ℕ) → Items → Items
pushed f g = share g (λ k. eqb (f (g k)) k)

-- THEOREM. Every item set has its image.
pub image_pushed : (f g : ℕ → ℕ) → ((e : ℕ) → g (f e) ≡ e) → (I : Items) → Image f g I (pushed f g I)
unfolding pushed
image_pushed f g u I = image_share reached u (record { kept = λ i h. refl })
  where
    reached : Image f g (λ i. true) (λ k. eqb (f (g k)) k)
    reached = record { taken = λ i. true_eqb (f (g (f i))) (f i) (ap f (u i)); sole = λ k h. eqb_true (f (g k)) k h }

-- A lent clause takes the next number on both sides

beyond_lend : (es : Scope) (D : Clause) (k : ℕ) → size (lend es D) + k ≡ size es + suc k
beyond_lend es D k = omega (arith, lend_size es D)

pub entry_before : (es : Scope) (D : Clause) (e : ℕ) → e < size es → entry_at (lend es D) e ≡ entry_at es e
unfolding size entry_at lend extend
entry_before es D e h = get_or-append es.entries _ no_entry e h

pub entry_lent : (es : Scope) (D : Clause) (e : ℕ) → e ≡ size es → entry_at (lend es D) e ≡ record { clause = D; linear = true }
unfolding size entry_at lend extend
entry_lent es D e h = ap (λ (k : ℕ). entry_at (lend es D) k) h ∙ get_or-append_seam es.entries _ [] no_entry

-- lending changes no head and no wanted name
pub fits_lend : (es : Scope) (D : Clause) → (lend es D).fits ≡ es.fits
unfolding lend extend
fits_lend es D = refl

-- an entry after lending stood before, or is the lent clause
pub lent_cases : (es : Scope) (D : Clause) (P : ℕ → Type 0) → ((e : ℕ) → e < size es → P e) → P (size es)
    → (e : ℕ) → e < size (lend es D) → P e
lent_cases es D P old lent e h = go (dec_lt e (size es))
  where
    go : Dec (e < size es) → P e
    go (yes k) = old e k
    go (no n) = subst P (omega (arith, lend_size es D)) lent

next_image : {es fs : Scope} {f g : ℕ → ℕ} → Renaming es fs f g → f (size es) ≡ size fs
next_image {es} {fs} {f} r = ap f (sym (add-zero (size es))) ∙ r.beyond zero ∙ add-zero (size fs)

entry_kept : {es fs : Scope} {f g : ℕ → ℕ} → Renaming es fs f g → (e : ℕ) → e < size es → entry_at fs (f e) ≡ entry_at es e
unfolding clause_at linear_at
entry_kept r e h = λ i. record { clause = r.clause e h i; linear = r.linear e h i }

lent_entry_kept : {es fs : Scope} {f g : ℕ → ℕ} → Renaming es fs f g → (D : Clause) (e : ℕ) → e < size (lend es D)
    → entry_at (lend fs D) (f e) ≡ entry_at (lend es D) e
lent_entry_kept {es} {fs} {f} r D =
    lent_cases es D (λ e. entry_at (lend fs D) (f e) ≡ entry_at (lend es D) e)
    (λ e h. entry_before fs D (f e) (r.within e h) ∙ entry_kept r e h ∙ sym (entry_before es D e h))
    (entry_lent fs D (f (size es)) (next_image r) ∙ sym (entry_lent es D (size es) refl))

-- THEOREM. A renaming goes on holding where both scopes are lent a clause.
pub renaming_lend : {es fs : Scope} {f g : ℕ → ℕ} → Renaming es fs f g → (D : Clause) → Renaming (lend es D) (lend fs D) f g
unfolding clause_at linear_at
renaming_lend {es} {fs} {f} r D =
    record {
      within =
          lent_cases es D (λ e. f e < size (lend fs D)) (λ e h. omega (arith, r.within e h, lend_size fs D))
          (omega (arith, next_image r, lend_size fs D));
      clause = λ e h. ap (λ (x : Entry). x.clause) (lent_entry_kept r D e h);
      linear = λ e h. ap (λ (x : Entry). x.linear) (lent_entry_kept r D e h);
      fit = λ b a h. ap (λ t. t b a) (fits_lend fs D) ∙ r.fit b a (sym (ap (λ t. t b a) (fits_lend es D)) ∙ h);
      undone = r.undone;
      beyond = λ k. ap f (beyond_lend es D k) ∙ r.beyond (suc k) ∙ sym (beyond_lend fs D k);
    }

-- Derivations go over

-- two parts go over; a use does, once the residual of its entry has
pub renamed_⊗ : {fs : Scope} {I J K : Items} {G H : Goal} {k l m : List ℕ} {n o : ℕ} → Splits I J K
    → Renamed fs J G l n → Renamed fs K H m o → k ≡ l ++ m → Renamed fs I (tensor G H) k (max n o)
unfolding steps nesting
renamed_⊗ s x y q =
    record {
      tree = res_⊗ s x.tree y.tree;
      list = ap₂ ◌++◌ x.list y.list ∙ sym q;
      depth = ap₂ max x.depth y.depth;
    }

renamed_& : {fs : Scope} {I : Items} {G H : Goal} {k l m : List ℕ} {n o : ℕ}
    → Renamed fs I G l n → Renamed fs I H m o → k ≡ l ++ m → Renamed fs I (with G H) k (max n o)
unfolding steps nesting
renamed_& x y q =
    record {
      tree = res_& x.tree y.tree;
      list = ap₂ ◌++◌ x.list y.list ∙ sym q;
      depth = ap₂ max x.depth y.depth;
    }

renamed_⊕₁ : {fs : Scope} {I : Items} {G H : Goal} {l : List ℕ} {n : ℕ}
    → Renamed fs I G l n → Renamed fs I (oplus G H) (left_choice ∷ l) n
unfolding steps nesting
renamed_⊕₁ x = record { tree = res_⊕₁ x.tree; list = ap (λ l. left_choice ∷ l) x.list; depth = x.depth }

renamed_⊕₂ : {fs : Scope} {I : Items} {G H : Goal} {l : List ℕ} {n : ℕ}
    → Renamed fs I H l n → Renamed fs I (oplus G H) (right_choice ∷ l) n
unfolding steps nesting
renamed_⊕₂ x = record { tree = res_⊕₂ x.tree; list = ap (λ l. right_choice ∷ l) x.list; depth = x.depth }

-- a test that lets more heads fit leaves what is derived derived
renamed_1 : {fs : Scope} {J : Items} {l : List ℕ} {n : ℕ} (b c : Bool) → (b ≡ true → c ≡ true)
    → Renamed fs J (matched b) l n → Renamed fs J (matched c) l n
unfolding matched
renamed_1 true true h x = x
renamed_1 true false h x = absurd (true≢false (sym (h refl)))
renamed_1 false c h x = absurd (no_zero x.tree)

renamed_wider : {fs : Scope} (s t : Fits) → ((b a : ℕ) → s b a ≡ true → t b a ≡ true) → (a : ℕ) (D : Clause) {J : Items}
    (d : Derives fs J (residual s a D)) → Renamed fs J (residual t a D) (steps d) (nesting d)
unfolding residual steps nesting
renamed_wider s t h a (atomᴰ b) d = renamed_1 (s b a) (t b a) (h b a) (record { tree = d; list = refl; depth = refl })
renamed_wider s t h a topᴰ d = absurd (no_zero d)
renamed_wider s t h a (lolliᴰ G D) (res_⊗ p c d) =
    renamed_⊗ p (renamed_wider s t h a D c) (record { tree = d; list = refl; depth = refl }) refl
renamed_wider s t h a (withᴰ D E) (res_⊕₁ d) = renamed_⊕₁ (renamed_wider s t h a D d)
renamed_wider s t h a (withᴰ D E) (res_⊕₂ d) = renamed_⊕₂ (renamed_wider s t h a E d)

module _ {es fs : Scope} {f g : ℕ → ℕ} {l : List ℕ} {n : ℕ} (r : Renaming es fs f g) (a e : ℕ) (h : e < size es) where
  -- what is left of the entry, there
  renamed_residual : {J : Items} → Renamed fs J (residual_at es a e) l n → Renamed fs J (residual_at fs a (f e)) l n
  unfolding residual_at
  renamed_residual {J} x =
      let y = subst (λ (D : Clause). Renamed fs J (residual es.fits a D) l n) (sym (r.clause e h)) x in
      let z = renamed_wider es.fits fs.fits r.fit a (clause_at fs (f e)) y.tree in
      record { tree = z.tree; list = z.list ∙ y.list; depth = z.depth ∙ y.depth }

  renamed_rule : {J : Items} → linear_at es e ≡ false → Renamed fs J (residual_at es a e) l n → Renamed fs J (atomᴳ a) (f e ∷ l) (suc n)
  unfolding steps nesting
  renamed_rule q x =
      let y = renamed_residual x in
      record { tree = res_atm_int (f e) (r.linear e h ∙ q) y.tree; list = ap (λ k. f e ∷ k) y.list; depth = ap suc y.depth }

  renamed_item : {J : Items} → linear_at es e ≡ true → J (f e) ≡ true → Renamed fs (J ∖ only (f e)) (residual_at es a e) l n
      → Renamed fs J (atomᴳ a) (f e ∷ l) (suc n)
  unfolding steps nesting
  renamed_item q t x =
      let y = renamed_residual x in
      record { tree = res_atm_lin (f e) (r.linear e h ∙ q) t y.tree; list = ap (λ k. f e ∷ k) y.list; depth = ap suc y.depth }

-- THEOREM. A derivation goes over along a renaming, with its entries renamed and the same nesting.
pub rename : {es fs : Scope} {f g : ℕ → ℕ} {I J : Items} {G : Goal} → Renaming es fs f g → Image f g I J → (d : Derives es I G)
    → Renamed fs J G (over f d) (nesting d)
unfolding over nesting steps
rename r m (res_1 v) = record { tree = res_1 (image_empty m v); list = refl; depth = refl }
rename r m res_⊤ = record { tree = res_⊤; list = refl; depth = refl }
rename r m (res_⊗ s c d) =
    let x = rename r (image_share m r.undone (splits_left s)) c in
    let y = rename r (image_share m r.undone (splits_right s)) d in
    renamed_⊗ (splits_share m s) x y refl
rename r m (res_& c d) = renamed_& (rename r m c) (rename r m d) refl
rename r m (res_⊕₁ d) = renamed_⊕₁ (rename r m d)
rename r m (res_⊕₂ d) = renamed_⊕₂ (rename r m d)
rename {J} r m (res_⊸ {es} {D} h d) =
    let x = rename (renaming_lend r D) (image_more m r.undone (size es) _ (next_image r)) d in
    record { tree = res_⊸ (ap J (sym (next_image r)) ∙ m.taken (size es) ∙ h) x.tree; list = x.list; depth = x.depth }
rename r m (res_atm_int {a} e n d) = renamed_rule r a e (in_scope a e d) n (rename r m d)
rename r m (res_atm_lin {a} e n h d) =
    renamed_item r a e (in_scope a e d) n (m.taken e ∙ h) (rename r (image_less m r.undone e) d)

-- THEOREM. Every step is an entry or a choice: with its entries renamed by a map that keeps choices, a derivation has its steps mapped.
pub over_steps : {es : Scope} {I : Items} {G : Goal} (f : ℕ → ℕ) → f left_choice ≡ left_choice → f right_choice ≡ right_choice
    → (d : Derives es I G) → over f d ≡ map f (steps d)
unfolding over steps
over_steps f p q (res_1 n) = refl
over_steps f p q res_⊤ = refl
over_steps f p q (res_⊗ s l r) = ap₂ ◌++◌ (over_steps f p q l) (over_steps f p q r) ∙ sym (map-append f (steps l) (steps r))
over_steps f p q (res_& l r) = ap₂ ◌++◌ (over_steps f p q l) (over_steps f p q r) ∙ sym (map-append f (steps l) (steps r))
over_steps f p q (res_⊕₁ d) = ap₂ ◌∷◌ (sym p) (over_steps f p q d)
over_steps f p q (res_⊕₂ d) = ap₂ ◌∷◌ (sym q) (over_steps f p q d)
over_steps f p q (res_⊸ h d) = over_steps f p q d
over_steps f p q (res_atm_int e n d) = ap (λ l. f e ∷ l) (over_steps f p q d)
over_steps f p q (res_atm_lin e n h d) = ap (λ l. f e ∷ l) (over_steps f p q d)

both_lengths : (k l m n : List ℕ) → length k ≡ length m → length l ≡ length n → length (k ++ l) ≡ length (m ++ n)
both_lengths k l m n p q = length-append k l ∙ ap₂ ◌+◌ p q ∙ sym (length-append m n)

-- THEOREM. A derivation has as many steps with its entries renamed.
pub over_length : {es : Scope} {I : Items} {G : Goal} (f : ℕ → ℕ) (d : Derives es I G) → length (over f d) ≡ length (steps d)
unfolding over steps
over_length f (res_1 n) = refl
over_length f res_⊤ = refl
over_length f (res_⊗ s l r) = both_lengths (over f l) (over f r) (steps l) (steps r) (over_length f l) (over_length f r)
over_length f (res_& l r) = both_lengths (over f l) (over f r) (steps l) (steps r) (over_length f l) (over_length f r)
over_length f (res_⊕₁ d) = ap suc (over_length f d)
over_length f (res_⊕₂ d) = ap suc (over_length f d)
over_length f (res_⊸ h d) = over_length f d
over_length f (res_atm_int e n d) = ap suc (over_length f d)
over_length f (res_atm_lin e n h d) = ap suc (over_length f d)

-- Jobs go over

module _ {j k : Job} {f g : ℕ → ℕ} {I J : Items} (r : JobRenaming j k f g) (m : Image f g I J) where
  strict_over : Within j.strict I → Within k.strict J
  strict_over w =
      record { kept = λ i h. let s = r.strict_from i h in ap J (sym s.0) ∙ m.taken (g i) ∙ w.kept (g i) s.1 }

  lines_over : Within I (j.strict ∪ j.lax) → Within J (k.strict ∪ k.lax)
  lines_over w =
      record { kept = λ i h. ap (k.strict ∪ k.lax) (sym (m.sole i h)) ∙ r.lines_to (g i) (w.kept (g i) (image_back m i h)) }

-- a renamed derivation from a set between the must lines and all lines
pub listed_by : {k : Job} {J : Items} {l : List ℕ} {n : ℕ} → Within k.strict J → Within J (k.strict ∪ k.lax)
    → Renamed k.scope J k.goal l n → n ≤ k.depth → length l ≤ k.length_limit → Listed k l
listed_by {J} s w z h c =
    record {
      derivation = record { items = J; all_strict = s; none_else = w; tree = z.tree };
      limited = record { nested = omega (arith, z.depth); counted = omega (arith, ap length z.list) };
      list = z.list;
    }

-- THEOREM. The derivations of j within limits, with their entries renamed, are derivations of k within limits.
pub rename_listed : {j k : Job} {f g : ℕ → ℕ} → JobRenaming j k f g → (d : Derivation j) → Limited j d → Listed k (over f d.tree)
rename_listed {k} {f} {g} r d m =
    let J = pushed f g d.items in
    let i : Image f g d.items J = image_pushed f g r.entries.undone d.items in
    let z = rename r.entries i d.tree in
    let there = subst (λ (G : Goal). Renamed k.scope J G (over f d.tree) (nesting d.tree)) r.same_goal z in
    let shallow : nesting d.tree ≤ k.depth = omega (arith, m.nested, r.no_shallower) in
    let short : length (over f d.tree) ≤ k.length_limit = omega (arith, over_length f d.tree, m.counted, r.no_shorter) in
    listed_by (strict_over r i d.all_strict) (lines_over r i d.none_else) there shallow short

-- Equal lines

pub swap_first : (x y : ℕ) → swap x y x ≡ y
unfolding swap
swap_first x y = if_pos (ℕ_discrete x x) refl y (ite (ℕ_discrete x y) x x)

pub swap_second : (x y : ℕ) → swap x y y ≡ x
unfolding swap
swap_second x y = go (ℕ_discrete y x)
  where
    go : Dec (y ≡ x) → swap x y y ≡ x
    go (yes p) = ap (swap x y) p ∙ swap_first x y ∙ p
    go (no n) = if_neg (ℕ_discrete y x) n y (ite (ℕ_discrete y y) x y) ∙ if_pos (ℕ_discrete y y) refl x y

pub swap_other : (x y e : ℕ) → e ≢ x → e ≢ y → swap x y e ≡ e
unfolding swap
swap_other x y e n k = if_neg (ℕ_discrete e x) n y (ite (ℕ_discrete e y) x e) ∙ if_neg (ℕ_discrete e y) k x e

-- a fact about each number and the one it is swapped for, by the three cases
pub swap_cases : (P : ℕ → ℕ → Type 0) (x y : ℕ) → P x y → P y x → ((e : ℕ) → e ≢ x → e ≢ y → P e e) → (e : ℕ) → P e (swap x y e)
swap_cases P x y first second other e = go (ℕ_discrete e x) (ℕ_discrete e y)
  where
    go : Dec (e ≡ x) → Dec (e ≡ y) → P e (swap x y e)
    go (yes p) q = subst (λ (k : ℕ). P k (swap x y k)) (sym p) (subst (P x) (sym (swap_first x y)) first)
    go (no n) (yes q) = subst (λ (k : ℕ). P k (swap x y k)) (sym q) (subst (P y) (sym (swap_second x y)) second)
    go (no n) (no k) = subst (P e) (sym (swap_other x y e n k)) (other e n k)

pub swap_swap : (x y e : ℕ) → swap x y (swap x y e) ≡ e
swap_swap x y = swap_cases (λ e k. swap x y k ≡ e) x y (swap_second x y) (swap_first x y) (swap_other x y)

-- what does not tell x from y does not tell a number from the one it is swapped for
pub swap_keeps : {A : Type 0} (h : ℕ → A) (x y : ℕ) → h x ≡ h y → (e : ℕ) → h (swap x y e) ≡ h e
swap_keeps h x y q = swap_cases (λ e k. h k ≡ h e) x y (sym q) q (λ e n k. refl)

pub swap_within : (n x y : ℕ) → x < n → y < n → (e : ℕ) → e < n → swap x y e < n
swap_within n x y h k = swap_cases (λ e i. e < n → i < n) x y (λ _. k) (λ _. h) (λ e _ _ i. i)
