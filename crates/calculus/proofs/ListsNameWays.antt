-- Unique reading: with scope and goal given, a step list tells the entry at each need, and no derivation's list begins another's.
use Prim.Native.Nat.{ℕ, zero, suc, ◌≤◌, ◌<◌}
use mathlib.Core.Path.{◌≡◌, refl, sym, ap, ap₂, ◌∙◌, subst}
use mathlib.Core.Logic.{◌↔◌, ◌≢◌, ◌⊎◌, inl, inr, ⊎_elim}
use mathlib.Core.Bool.{Bool, true, false}
use mathlib.Core.List.{List, [], ◌∷◌, ◌++◌, map, map-append, map-map, map-id, append-nil, append_assoc, append_cancel_left, nil≢cons}
use mathlib.Core.List.Memᴰ
use mathlib.Core.List.{head-eq_of_cons-eq, tail-eq_of_cons-eq, Memᴰ}
use native.Mathlib.Decide.{ℕ_discrete}
use native.Mathlib.Omega.{arith}
use Rattle.calculus.specs.Formula.{Goal, Clause, Fits, oneᴳ, zeroᴳ, tensor, oplus, atomᴰ, topᴰ, lolliᴰ, withᴰ, matched, residual}
use Rattle.calculus.specs.Items.{Items}
use Rattle.calculus.specs.Derivation.{Scope, Derives, clause_at, residual_at, res_1, res_⊤, res_⊗, res_&, res_⊕₁, res_⊕₂}
use Rattle.calculus.specs.Derivation.{res_⊸, res_atm_int, res_atm_lin}
use Rattle.calculus.specs.Steps.{steps, left_choice, right_choice, Turn, left, right, into, condition, choice, Need, under}
use Rattle.calculus.specs.Steps.{Mode, plain, row, rowed, turn_left, turn_right, turn_choice, turn_side, chosen, needs, Serves, Needed, SameService}
use Rattle.calculus.specs.Job.{Job, Derivation}
use Rattle.calculus.specs.Ways.{NeitherBegins, ListsNameWays}

-- a need, and those behind it
abbrev served : List Turn → ℕ → List Need → List Need
served p e ns = record { place = p; entry = e } ∷ ns

-- what holds of every use of e holds of every use of f, where these are one entry
at_entry : (a : ℕ) {es : Scope} {J : Items} (P : (k : ℕ) → Derives es J (residual_at es a k) → Type 0) {e f : ℕ} → e ≡ f
    → ((d : Derives es J (residual_at es a e)) → P e d) → (d : Derives es J (residual_at es a f)) → P f d
at_entry a {es} {J} P = subst (λ (k : ℕ). (d : Derives es J (residual_at es a k)) → P k d)

-- Reading a list

-- two readings of one list agree in the needs, in the conditions met, and in what follows
pub record Alike (ns ms : List Need) (i k : ℕ) (r t : List ℕ) : Type 0 where
  pub needs_same : ns ≡ ms
  pub rowed_same : i ≡ k
  pub rest_same : r ≡ t

-- two parts are read one after the other
reads_parts : (l r l' r' x y : List ℕ) {ns os ns' os' : List Need} {i k i' k' : ℕ} (p : List Turn) (q : ℕ → List Turn) (f : ℕ → ℕ)
    → l ++ r ++ x ≡ l' ++ r' ++ y → (l ++ (r ++ x) ≡ l' ++ (r' ++ y) → Alike ns ns' i i' (r ++ x) (r' ++ y))
    → (r ++ x ≡ r' ++ y → Alike os os' k k' x y)
    → Alike (under p ns ++ under (q i) os) (under p ns' ++ under (q i') os') (f i) (f i') x y
reads_parts l r l' r' x y p q f e first second =
    let a = first (sym (append_assoc l r x) ∙ e ∙ append_assoc l' r' y) in
    let b = second a.rest_same in
    record {
      needs_same = ap₂ ◌++◌ (ap (under p) a.needs_same) (ap₂ (λ n. under (q n)) a.rowed_same b.needs_same);
      rowed_same = ap f a.rowed_same;
      rest_same = b.rest_same;
    }

-- a use is read by its entry, and then its conditions are
reads_use : (a : ℕ) {es : Scope} {I J : Items} {e f : ℕ} {r t : List ℕ} (c : Derives es I (residual_at es a e))
    → ((d : Derives es J (residual_at es a e)) → steps c ++ r ≡ steps d ++ t
    → Alike (needs (row zero) c) (needs (row zero) d) (rowed c) (rowed d) r t)
    → (d : Derives es J (residual_at es a f)) → e ∷ steps c ++ r ≡ f ∷ steps d ++ t
    → Alike (served [] e (needs (row zero) c)) (served [] f (needs (row zero) d)) zero zero r t
reads_use a {es} {e} {r} {t} c read d p =
    at_entry a (λ f d. steps c ++ r ≡ steps d ++ t → Alike (served [] e (needs (row zero) c)) (served [] f (needs (row zero) d)) zero zero r t)
    (head-eq_of_cons-eq p) (λ d q. behind (read d q)) d (tail-eq_of_cons-eq p)
  where
    behind : {ns ms : List Need} {i k : ℕ} → Alike ns ms i k r t → Alike (served [] e ns) (served [] e ms) zero zero r t
    behind x = record { needs_same = ap (served [] e) x.needs_same; rowed_same = refl; rest_same = x.rest_same }

-- a choice is read by its byte, and then the side taken is
reads_side : (m : Mode) (c : ℕ) (t : Turn) (l k r s : List ℕ) {ns ms : List Need} {i j : ℕ} → (l ++ r ≡ k ++ s → Alike ns ms i j r s)
    → c ∷ l ++ r ≡ c ∷ k ++ s
    → Alike (served (turn_choice m) c (under (turn_side m t) ns)) (served (turn_choice m) c (under (turn_side m t) ms)) i j r s
reads_side m c t l k r s read p =
    let a = read (tail-eq_of_cons-eq p) in
    record {
      needs_same = ap (λ ns. served (turn_choice m) c (under (turn_side m t) ns)) a.needs_same;
      rowed_same = a.rowed_same;
      rest_same = a.rest_same;
    }

-- THEOREM. A step list, whatever follows it, tells the needs and where it ends.
pub reads : {es : Scope} {I J : Items} {G : Goal} (m : Mode) (c : Derives es I G) (d : Derives es J G) (r t : List ℕ)
    → steps c ++ r ≡ steps d ++ t → Alike (needs m c) (needs m d) (rowed c) (rowed d) r t
unfolding steps needs rowed
reads m (res_1 n) (res_1 n') x y p = record { needs_same = refl; rowed_same = refl; rest_same = p }
reads m res_⊤ res_⊤ x y p = record { needs_same = refl; rowed_same = refl; rest_same = p }
reads m (res_⊗ s l r) (res_⊗ s' l' r') x y p =
    reads_parts (steps l) (steps r) (steps l') (steps r') x y (turn_left m) (turn_right m) suc p (reads m l l' _ _) (reads plain r r' _ _)
reads m (res_& l r) (res_& l' r') x y p =
    reads_parts (steps l) (steps r) (steps l') (steps r') x y (left ∷ []) (λ n. right ∷ []) (λ n. zero) p
    (reads plain l l' _ _) (reads plain r r' _ _)
reads m (res_⊕₁ c) (res_⊕₁ d) x y p = reads_side m left_choice left (steps c) (steps d) x y (reads (chosen m) c d x y) p
reads m (res_⊕₁ c) (res_⊕₂ d) x y p = absurd (omega (arith, head-eq_of_cons-eq p))
reads m (res_⊕₂ c) (res_⊕₁ d) x y p = absurd (omega (arith, head-eq_of_cons-eq p))
reads m (res_⊕₂ c) (res_⊕₂ d) x y p = reads_side m right_choice right (steps c) (steps d) x y (reads (chosen m) c d x y) p
reads m (res_⊸ f c) (res_⊸ g d) x y p =
    let q = reads plain c d x y p in
    record { needs_same = ap (under (into ∷ [])) q.needs_same; rowed_same = refl; rest_same = q.rest_same }
reads m (res_atm_int {a} e n c) (res_atm_int f n' d) x y p = reads_use a c (λ d q. reads (row zero) c d x y q) d p
reads m (res_atm_int {a} e n c) (res_atm_lin f n' h' d) x y p = reads_use a c (λ d q. reads (row zero) c d x y q) d p
reads m (res_atm_lin {a} e n h c) (res_atm_int f n' d) x y p = reads_use a c (λ d q. reads (row zero) c d x y q) d p
reads m (res_atm_lin {a} e n h c) (res_atm_lin f n' h' d) x y p = reads_use a c (λ d q. reads (row zero) c d x y q) d p

-- Steps are the entries of needs

entries_under : (p : List Turn) (ns : List Need) → map (λ n. n.entry) (under p ns) ≡ map (λ n. n.entry) ns
unfolding under
entries_under p ns = map-map _ _ ns

entries_parts : (p q : List Turn) (ns os : List Need)
    → map (λ n. n.entry) (under p ns ++ under q os) ≡ map (λ n. n.entry) ns ++ map (λ n. n.entry) os
entries_parts p q ns os = map-append _ (under p ns) (under q os) ∙ ap₂ ◌++◌ (entries_under p ns) (entries_under q os)

-- THEOREM. The step list is the entries of the needs, in walking order.
pub steps_are_entries : {es : Scope} {I : Items} {G : Goal} (m : Mode) (d : Derives es I G) → steps d ≡ map (λ n. n.entry) (needs m d)
unfolding steps needs
steps_are_entries m (res_1 n) = refl
steps_are_entries m res_⊤ = refl
steps_are_entries m (res_⊗ s l r) =
    ap₂ ◌++◌ (steps_are_entries m l) (steps_are_entries plain r)
    ∙ sym (entries_parts (turn_left m) (turn_right m (rowed l)) (needs m l) (needs plain r))
steps_are_entries m (res_& l r) =
    ap₂ ◌++◌ (steps_are_entries plain l) (steps_are_entries plain r)
    ∙ sym (entries_parts (left ∷ []) (right ∷ []) (needs plain l) (needs plain r))
steps_are_entries m (res_⊕₁ d) =
    ap (λ (l : List ℕ). left_choice ∷ l) (steps_are_entries (chosen m) d ∙ sym (entries_under (turn_side m left) (needs (chosen m) d)))
steps_are_entries m (res_⊕₂ d) =
    ap (λ (l : List ℕ). right_choice ∷ l) (steps_are_entries (chosen m) d ∙ sym (entries_under (turn_side m right) (needs (chosen m) d)))
steps_are_entries m (res_⊸ f d) = steps_are_entries plain d ∙ sym (entries_under (into ∷ []) (needs plain d))
steps_are_entries m (res_atm_int e n d) = ap (λ (l : List ℕ). e ∷ l) (steps_are_entries _ d)
steps_are_entries m (res_atm_lin e n h d) = ap (λ (l : List ℕ). e ∷ l) (steps_are_entries _ d)

-- Two derivations have the same needs and meet as many conditions, or a place is served by different entries

data Compared (ns ms : List Need) (i k : ℕ) : Type 0 where
  equal : ns ≡ ms → i ≡ k → Compared ns ms i k
  clash : (p : List Turn) (e f : ℕ) → Memᴰ (record { place = p; entry = e }) ns
      → Memᴰ (record { place = p; entry = f }) ms → e ≢ f → Compared ns ms i k

compared_under : (p : List Turn) {ns ms : List Need} {i k : ℕ} → Compared ns ms i k → Compared (under p ns) (under p ms) zero zero
unfolding under
compared_under p (equal q r) = equal (ap (under p) q) refl
compared_under p (clash o e f i j d) = clash (p ++ o) e f (Memᴰ.map _ i) (Memᴰ.map _ j) d

-- two parts, the place of the second by what the first meets
compared_parts : (p : List Turn) (q : ℕ → List Turn) (f : ℕ → ℕ) {ns os ns' os' : List Need} {i k i' k' : ℕ}
    → Compared ns ns' i i' → Compared os os' k k'
    → Compared (under p ns ++ under (q i) os) (under p ns' ++ under (q i') os') (f i) (f i')
unfolding under
compared_parts p q f (equal a b) (equal c d) = equal (ap₂ ◌++◌ (ap (under p) a) (ap₂ (λ n. under (q n)) b c)) (ap f b)
compared_parts p q f {ns} {ns'} {os'} {i} {i'} (equal a b) (clash o e g x y d) =
    clash (q i ++ o) e g (Memᴰ.append_right (under p ns) (Memᴰ.map _ x))
    (Memᴰ.append_right (under p ns') (subst (λ n. Memᴰ (record { place = q n ++ o; entry = g }) (under (q i') os')) (sym b) there)) d
  where
    there : Memᴰ (record { place = q i' ++ o; entry = g }) (under (q i') os')
    there = Memᴰ.map _ y
compared_parts p q f {os} {os'} {i} {i'} (clash o e g x y d) c =
    clash (p ++ o) e g (Memᴰ.append_left (under (q i) os) (Memᴰ.map _ x)) (Memᴰ.append_left (under (q i') os') (Memᴰ.map _ y)) d

-- the same need, then needs compared
compared_behind : (e : ℕ) {ns ms : List Need} {i k : ℕ} → Compared ns ms i k → Compared (served [] e ns) (served [] e ms) zero zero
compared_behind e (equal a b) = equal (ap (served [] e) a) refl
compared_behind e (clash o g h x y d) = clash o g h (Memᴰ.tail x) (Memᴰ.tail y) d

-- the same choice, then the needs of the side taken
compared_side : (p : List Turn) (c : ℕ) (q : List Turn) {ns ms : List Need} {i k : ℕ} → Compared ns ms i k
    → Compared (served p c (under q ns)) (served p c (under q ms)) i k
unfolding under
compared_side p c q (equal a b) = equal (ap (λ ns. served p c (under q ns)) a) b
compared_side p c q (clash o g h x y d) = clash (q ++ o) g h (Memᴰ.tail (Memᴰ.map _ x)) (Memᴰ.tail (Memᴰ.map _ y)) d

-- different choices
compared_sides : (p : List Turn) {c e : ℕ} (ns ms : List Need) {i k : ℕ} → c ≢ e → Compared (served p c ns) (served p e ms) i k
compared_sides p {c} {e} ns ms n = clash p c e (Memᴰ.head refl) (Memᴰ.head refl) n

compared_use : (a : ℕ) {es : Scope} {I J : Items} {e f : ℕ} (c : Derives es I (residual_at es a e))
    → ((d : Derives es J (residual_at es a e)) → Compared (needs (row zero) c) (needs (row zero) d) (rowed c) (rowed d))
    → (d : Derives es J (residual_at es a f)) → Dec (e ≡ f) → Compared (served [] e (needs (row zero) c)) (served [] f (needs (row zero) d)) zero zero
compared_use a {e} {f} c compare d (no n) = clash [] e f (Memᴰ.head refl) (Memᴰ.head refl) n
compared_use a {e} c compare d (yes p) =
    at_entry a (λ f d. Compared (served [] e (needs (row zero) c)) (served [] f (needs (row zero) d)) zero zero) p (λ d. compared_behind e (compare d)) d

compared : {es : Scope} {I J : Items} {G : Goal} (m : Mode) (c : Derives es I G) (d : Derives es J G)
    → Compared (needs m c) (needs m d) (rowed c) (rowed d)
unfolding needs rowed
compared m (res_1 n) (res_1 n') = equal refl refl
compared m res_⊤ res_⊤ = equal refl refl
compared m (res_⊗ s l r) (res_⊗ s' l' r') = compared_parts (turn_left m) (turn_right m) suc (compared m l l') (compared plain r r')
compared m (res_& l r) (res_& l' r') =
    compared_parts (left ∷ []) (λ n. right ∷ []) (λ n. zero) (compared plain l l') (compared plain r r')
compared m (res_⊕₁ c) (res_⊕₁ d) = compared_side (turn_choice m) left_choice (turn_side m left) (compared (chosen m) c d)
compared m (res_⊕₁ c) (res_⊕₂ d) = compared_sides (turn_choice m) _ _ (λ e. omega (arith, e))
compared m (res_⊕₂ c) (res_⊕₁ d) = compared_sides (turn_choice m) _ _ (λ e. omega (arith, e))
compared m (res_⊕₂ c) (res_⊕₂ d) = compared_side (turn_choice m) right_choice (turn_side m right) (compared (chosen m) c d)
compared m (res_⊸ f c) (res_⊸ g d) = compared_under (into ∷ []) (compared plain c d)
compared m (res_atm_int {a} e n c) (res_atm_int f n' d) = compared_use a c (λ d. compared (row zero) c d) d (ℕ_discrete e f)
compared m (res_atm_int {a} e n c) (res_atm_lin f n' h' d) = compared_use a c (λ d. compared (row zero) c d) d (ℕ_discrete e f)
compared m (res_atm_lin {a} e n h c) (res_atm_int f n' d) = compared_use a c (λ d. compared (row zero) c d) d (ℕ_discrete e f)
compared m (res_atm_lin {a} e n h c) (res_atm_lin f n' h' d) = compared_use a c (λ d. compared (row zero) c d) d (ℕ_discrete e f)

-- A place has one need

-- how a walk may stand: anywhere in plain mode, and in a row of conditions at what is left of a clause
data Walks : Mode → Goal → Type 0 where
  anywhere : {G : Goal} → Walks plain G
  met : {k : ℕ} → Walks (row k) oneᴳ
  unmet : {k : ℕ} → Walks (row k) zeroᴳ
  after : {k : ℕ} {G H : Goal} → Walks (row k) G → Walks (row k) (tensor G H)
  either : {k : ℕ} {G H : Goal} → Walks (row (suc k)) G → Walks (row (suc k)) H → Walks (row k) (oplus G H)

matched_walks : (k : ℕ) (b : Bool) → Walks (row k) (matched b)
unfolding matched
matched_walks k true = met
matched_walks k false = unmet

residual_walks : (k : ℕ) (fits : Fits) (a : ℕ) (D : Clause) → Walks (row k) (residual fits a D)
unfolding residual
residual_walks k fits a (atomᴰ b) = matched_walks k (fits b a)
residual_walks k fits a topᴰ = unmet
residual_walks k fits a (lolliᴰ G D) = after (residual_walks k fits a D)
residual_walks k fits a (withᴰ D E) = either (residual_walks (suc k) fits a D) (residual_walks (suc k) fits a E)

-- a turn to one of the first n conditions, or to a choice behind the first k
data Among (k n : ℕ) : Turn → Type 0 where
  nth : (i : ℕ) → i < n → Among k n (condition i)
  later : (i : ℕ) → k ≤ i → Among k n (choice i)

-- the place begins with a turn of this sort
record Begins (P : Turn → Type 0) (p : List Turn) : Type 0 where
  turn : Turn
  rest : List Turn
  starts : p ≡ turn ∷ rest
  sort : P turn

-- no two needs at one place
record Once (ns : List Need) : Type 0 where
  once : (n m : Need) → Memᴰ n ns → Memᴰ m ns → n.place ≡ m.place → n.entry ≡ m.entry

-- the same, with places that begin with a turn of this sort
record Sorted (P : Turn → Type 0) (ns : List Need) : Type 0 where
  singly : Once ns
  begins : (n : Need) → Memᴰ n ns → Begins P n.place

once_none : Once []
once_none = record { once = λ n m i j q. absurd (Memᴰ.not-nil i) }

-- what a need under p comes from
record Origin (p : List Turn) (ns : List Need) (n : Need) : Type 0 where
  need : Need
  member : Memᴰ need ns
  place_is : p ++ need.place ≡ n.place
  entry_is : need.entry ≡ n.entry

origin : (p : List Turn) (ns : List Need) {n : Need} → Memᴰ n (under p ns) → Origin p ns n
unfolding under
origin p ns i =
    let x = Memᴰ.of_map _ ns i in
    record { need = x.0; member = x.1; place_is = ap (λ (k : Need). k.place) x.2; entry_is = ap (λ (k : Need). k.entry) x.2 }

once_under : (p : List Turn) {ns : List Need} → Once ns → Once (under p ns)
once_under p {ns} o = record { once = λ n m i j q. go n m q (origin p ns i) (origin p ns j) }
  where
    go : (n m : Need) → n.place ≡ m.place → Origin p ns n → Origin p ns m → n.entry ≡ m.entry
    go n m q x y =
        let same = append_cancel_left p _ _ (x.place_is ∙ q ∙ sym y.place_is) in
        sym x.entry_is ∙ o.once x.need y.need x.member y.member same ∙ y.entry_is

sorted_under : (t : Turn) {ns : List Need} → Once ns → Sorted (λ u. u ≡ t) (under (t ∷ []) ns)
sorted_under t {ns} o = record { singly = once_under (t ∷ []) o; begins = λ n i. go n (origin (t ∷ []) ns i) }
  where
    go : (n : Need) → Origin (t ∷ []) ns n → Begins (λ u. u ≡ t) n.place
    go n x = record { turn = t; rest = x.need.place; starts = sym x.place_is; sort = refl }

-- no turn is of both sorts
abbrev Apart : (Turn → Type 0) → (Turn → Type 0) → Type 0
Apart P Q = (t : Turn) → P t → Q t → ⊥

begins_apart : {P Q : Turn → Type 0} {p q : List Turn} → Apart P Q → Begins P p → Begins Q q → p ≡ q → ⊥
begins_apart {Q} a b c e =
    a b.turn b.sort (subst Q (sym (head-eq_of_cons-eq (sym b.starts ∙ e ∙ c.starts))) c.sort)

begins_other : {P R : Turn → Type 0} {p : List Turn} → ((t : Turn) → P t → R t) → Begins P p → Begins R p
begins_other f b = record { turn = b.turn; rest = b.rest; starts = b.starts; sort = f b.turn b.sort }

-- needs whose places begin with turns of two sorts that no turn shares
sorted_parts : {P Q R : Turn → Type 0} {ns os : List Need} → Apart P Q → ((t : Turn) → P t → R t) → ((t : Turn) → Q t → R t)
    → Sorted P ns → Sorted Q os → Sorted R (ns ++ os)
sorted_parts {R} {ns} {os} a f g b c =
    record {
      singly = record { once = λ n m i j q. go n m q (Memᴰ.append_cases ns i) (Memᴰ.append_cases ns j) };
      begins = λ n i. start n (Memᴰ.append_cases ns i);
    }
  where
    go : (n m : Need) → n.place ≡ m.place → Memᴰ n ns ⊎ Memᴰ n os → Memᴰ m ns ⊎ Memᴰ m os → n.entry ≡ m.entry
    go n m q (inl i) (inl j) = b.singly.once n m i j q
    go n m q (inl i) (inr j) = absurd (begins_apart a (b.begins n i) (c.begins m j) q)
    go n m q (inr i) (inl j) = absurd (begins_apart a (b.begins m j) (c.begins n i) (sym q))
    go n m q (inr i) (inr j) = c.singly.once n m i j q

    start : (n : Need) → Memᴰ n ns ⊎ Memᴰ n os → Begins R n.place
    start n (inl i) = begins_other f (b.begins n i)
    start n (inr i) = begins_other g (c.begins n i)

-- the need at an atom stands at the empty place, and those of the conditions do not; so do a choice and the side taken
once_use : {P : Turn → Type 0} (e : ℕ) {ns : List Need} → Sorted P ns → Once (served [] e ns)
once_use e {ns} b = record { once = λ n m i j q. go n m q (Memᴰ.cases_cons i) (Memᴰ.cases_cons j) }
  where
    here : Need
    here = record { place = []; entry = e }

    elsewhere : (n : Need) → Memᴰ n ns → [] ≡ n.place → ⊥
    elsewhere n i q = nil≢cons (q ∙ (b.begins n i).starts)

    go : (n m : Need) → n.place ≡ m.place → (n ≡ here) ⊎ Memᴰ n ns → (m ≡ here) ⊎ Memᴰ m ns → n.entry ≡ m.entry
    go n m q (inl i) (inl j) = ap (λ (k : Need). k.entry) (i ∙ sym j)
    go n m q (inl i) (inr j) = absurd (elsewhere m j (sym (ap (λ (k : Need). k.place) i) ∙ q))
    go n m q (inr i) (inl j) = absurd (elsewhere n i (sym (q ∙ ap (λ (k : Need). k.place) j)))
    go n m q (inr i) (inr j) = b.singly.once n m i j q

-- what tells left from right, and a condition from a choice
side : Turn → ℕ
side left = 0
side right = 1
side into = 2
side (condition k) = 3
side (choice k) = 4

-- the two parts of ⊗ and &
once_parts : {ns os : List Need} → Once ns → Once os → Once (under (left ∷ []) ns ++ under (right ∷ []) os)
unfolding side
once_parts o u =
    (sorted_parts {R = λ t. Unit {0}} (λ t p q. omega (arith, ap side p, ap side q)) (λ t p. tt) (λ t p. tt)
    (sorted_under left o) (sorted_under right u)).singly

under_none : (ns : List Need) → under [] ns ≡ ns
unfolding under
under_none ns = map-id ns

-- the number of a condition or choice
number : Turn → ℕ
number left = 0
number right = 0
number into = 0
number (condition k) = k
number (choice k) = k

-- the conditions before, and the next one
sorted_row : {k n : ℕ} {ns os : List Need} → Sorted (Among k n) ns → Once os
    → Sorted (Among k (suc n)) (under [] ns ++ under (condition n ∷ []) os)
unfolding number side
sorted_row {k} {n} {ns} {os} b o = sorted_parts {ns = under [] ns} apart more last (rw (under_none ns) b) (sorted_under (condition n) o)
  where
    apart : Apart (Among k n) (λ u. u ≡ condition n)
    apart t (nth i h) q = omega (arith, ap number q)
    apart t (later i h) q = omega (arith, ap side q)

    more : (t : Turn) → Among k n t → Among k (suc n) t
    more t (nth i h) = nth i (omega arith)
    more t (later i h) = later i h

    last : (t : Turn) → t ≡ condition n → Among k (suc n) t
    last t q = subst (Among k (suc n)) (sym q) (nth n (omega arith))

-- one need
sorted_one : (t : Turn) (e : ℕ) → Sorted (λ u. u ≡ t) (served (t ∷ []) e [])
sorted_one t e = record { singly = record { once = λ n m i j q. same n m (one i) (one j) }; begins = λ n i. begin n (one i) }
  where
    it : Need
    it = record { place = t ∷ []; entry = e }

    one : {n : Need} → Memᴰ n (it ∷ []) → n ≡ it
    one i = ⊎_elim (λ p. p) (λ p. absurd (Memᴰ.not-nil p)) (Memᴰ.cases_cons i)

    same : (n m : Need) → n ≡ it → m ≡ it → n.entry ≡ m.entry
    same n m p q = ap (λ (k : Need). k.entry) (p ∙ sym q)

    begin : (n : Need) → n ≡ it → Begins (λ u. u ≡ t) n.place
    begin n p = record { turn = t; rest = []; starts = ap (λ (k : Need). k.place) p; sort = refl }

-- a choice, and those behind it
sorted_choice : {k n : ℕ} (c : ℕ) {ns : List Need} → Sorted (Among (suc k) n) ns
    → Sorted (Among k n) (served (choice k ∷ []) c (under [] ns))
unfolding number side
sorted_choice {k} {n} c {ns} b =
    sorted_parts {ns = served (choice k ∷ []) c []} {os = under [] ns} apart first more (sorted_one (choice k) c) (rw (under_none ns) b)
  where
    apart : Apart (λ u. u ≡ choice k) (Among (suc k) n)
    apart t q (nth i h) = omega (arith, ap side q)
    apart t q (later i h) = omega (arith, ap number q)

    first : (t : Turn) → t ≡ choice k → Among k n t
    first t q = subst (Among k n) (sym q) (later k (omega arith))

    more : (t : Turn) → Among (suc k) n t → Among k n t
    more t (nth i h) = nth i h
    more t (later i h) = later i (omega arith)

-- what the needs of a walk keep: in a row the places begin with one of the conditions met, or a choice made
abbrev Kept : Mode → ℕ → List Need → Type 0
Kept plain n ns = Once ns
Kept (row k) n ns = Sorted (Among k n) ns

kept : {es : Scope} {I : Items} {G : Goal} {m : Mode} → Walks m G → (d : Derives es I G) → Kept m (rowed d) (needs m d)
unfolding needs rowed turn_left turn_right turn_choice turn_side chosen residual_at
kept anywhere (res_1 n) = once_none
kept anywhere res_⊤ = once_none
kept anywhere (res_⊗ s l r) = once_parts (kept anywhere l) (kept anywhere r)
kept anywhere (res_& l r) = once_parts (kept anywhere l) (kept anywhere r)
kept anywhere (res_⊕₁ d) = once_use left_choice (sorted_under left (kept anywhere d))
kept anywhere (res_⊕₂ d) = once_use right_choice (sorted_under right (kept anywhere d))
kept anywhere (res_⊸ f d) = once_under (into ∷ []) (kept anywhere d)
kept anywhere (res_atm_int {es} {a} e n d) = once_use e (kept (residual_walks zero es.fits a (clause_at es e)) d)
kept anywhere (res_atm_lin {es} {a} e n h d) = once_use e (kept (residual_walks zero es.fits a (clause_at es e)) d)
kept met (res_1 n) = record { singly = once_none; begins = λ n i. absurd (Memᴰ.not-nil i) }
kept (after w) (res_⊗ s l r) = sorted_row (kept w l) (kept anywhere r)
kept (either w x) (res_⊕₁ d) = sorted_choice left_choice (kept w d)
kept (either w x) (res_⊕₂ d) = sorted_choice right_choice (kept x d)
kept (unmet {k = k}) d = elim d [ ]

-- THEOREM. A place has at most one need, and one entry serves it.
pub serves_once : {es : Scope} {I : Items} {G : Goal} (d : Derives es I G) (p : List Turn) (e f : ℕ)
    → Serves d p e → Serves d p f → e ≡ f
unfolding Serves
serves_once d p e f s t = (kept anywhere d).once (record { place = p; entry = e }) (record { place = p; entry = f }) s t refl

-- Lists name ways

-- THEOREM. Derivations with the same needs serve them alike.
pub same_needs : {es : Scope} {I J : Items} {G : Goal} (c : Derives es I G) (d : Derives es J G)
    → needs plain c ≡ needs plain d → SameService c d
unfolding Serves Needed
same_needs c d q =
    record {
      places = λ p. (λ s. (s.0, over q s.1), λ s. (s.0, over (sym q) s.1));
      entries = λ p e f s t. serves_once c p e f s (over (sym q) t);
    }
  where
    over : {n : Need} {ns ms : List Need} → ns ≡ ms → Memᴰ n ns → Memᴰ n ms
    over {n} e i = subst (λ ns. Memᴰ n ns) e i

-- THEOREM. Two derivations have the same list exactly if the same entry serves every need.
pub same_steps : {es : Scope} {I J : Items} {G : Goal} (c : Derives es I G) (d : Derives es J G) → (steps c ≡ steps d) ↔ SameService c d
unfolding Serves
same_steps c d = (λ p. same_needs c d (reads plain c d [] [] (ap (◌++ []) p)).needs_same, λ s. decide s (compared plain c d))
  where
    decide : SameService c d → Compared (needs plain c) (needs plain d) (rowed c) (rowed d) → steps c ≡ steps d
    decide s (equal q r) = steps_are_entries plain c ∙ ap (map (λ n. n.entry)) q ∙ sym (steps_are_entries plain d)
    decide s (clash p e f i j n) = absurd (n (s.entries p e f i j))

pub same_service_sym : {es : Scope} {I J : Items} {G : Goal} {c : Derives es I G} {d : Derives es J G}
    → SameService c d → SameService d c
same_service_sym s =
    record { places = λ p. ((s.places p).1, (s.places p).0); entries = λ p e f i j. sym (s.entries p f e j i) }

-- THEOREM. Where one list begins the other, the same entry serves every need (and so the lists are equal).
pub beginning_serves : {es : Scope} {I J : Items} {G : Goal} (c : Derives es I G) (d : Derives es J G) (r : List ℕ)
    → steps c ++ r ≡ steps d → SameService c d
beginning_serves c d r p = same_needs c d (reads plain c d r [] (p ∙ sym (append-nil (steps d)))).needs_same

-- THEOREM. Where some need is served otherwise, neither list is a beginning of the other.
pub not_beginning : {es : Scope} {I J : Items} {G : Goal} (c : Derives es I G) (d : Derives es J G) → (SameService c d → ⊥)
    → NeitherBegins (steps c) (steps d)
not_beginning c d n =
    record { forth = λ r p. n (beginning_serves c d r p); back = λ r p. n (same_service_sym (beginning_serves d c r p)) }

-- THEOREM. In every job a list and a way of serving the needs name each other.
pub job_lists_name_ways : (j : Job) (c d : Derivation j) → ListsNameWays j c d
job_lists_name_ways j c d = record { same_list = same_steps c.tree d.tree; other_list = not_beginning c.tree d.tree }
