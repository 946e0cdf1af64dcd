-- Each change of a summary gathers as its connective asks.
use Prim.Native.Nat.{ℕ, ◌-◌, ◌≤◌, ◌<◌}
use mathlib.Core.Path.{◌≡◌, refl, sym, ◌∙◌, ap}
use mathlib.Core.Logic.{◌↔◌}
use mathlib.Core.Bool.{Bool, true, false, not, ◌&&◌, ◌||◌, false≢true}
use mathlib.Core.List.{List, [], ◌∷◌, ◌++◌}
use Rattle.calculus.specs.Items.{◌∪◌, ◌∖◌, only, Empty, Within}
use Rattle.calculus.specs.Derivation.{Scope, size}
use Rattle.calculus.specs.Inner.Summary.{Joins, spare, Covers}
use Rattle.calculus.specs.Inner.Trace.{Says, Apart, Ends, Fails, Tensors, Withs, Lends, UsesRule, UsesItem}
use Rattle.lines.specs.declared.LineSet.{LineSet}
use Rattle.lines.specs.Set.{member, is_empty_s, empty_s, cut_s, meet_s, Words}
use Rattle.lines.proofs.MemberLaws.{words_empty, words_meet, words_cut}
use Rattle.scope.specs.Inner.Sets.{items}
use Rattle.scope.proofs.SetsAreItems.{items_join, items_meet, items_cut, items_none, items_add, items_take, items_at_lem}
use Rattle.summary.specs.declared.Position.{Position}
use Rattle.summary.specs.declared.Summary.{Summary}
use Rattle.summary.specs.Inner.Values.{ended_w, tensor_w, cover_w, with_w, without_s, using_w}
use Rattle.summary.specs.Inner.Walks.{gathered}

-- Tests that say what they test

says_and : {P Q : Type 0} (a b : Bool) → Says a P → Says b Q → Says (a && b) (P × Q)
says_and true b p q = (λ h. (p.0 refl, q.0 h), λ h. q.1 h.1)
says_and false b p q = (λ h. absurd (false≢true h), λ h. p.1 h.0)

-- itself
says_self : (a : Bool) → Says a (a ≡ true)
says_self a = (λ h. h, λ h. h)

says_via : {P Q : Type 0} (a : Bool) → Says a P → P ↔ Q → Says a Q
says_via a s e = (λ h. e.0 (s.0 h), λ h. s.1 (e.1 h))

not_free : (b : Bool) → Says (not b) (b ≡ false)
not_free true = (λ h. absurd (false≢true h), λ h. absurd (false≢true (sym h)))
not_free false = (λ h. refl, λ h. refl)

-- no item of both
apart_says : (P : ℕ) (s t : LineSet) → Words s → Words t → Says (is_empty_s (meet_s s t)) (Apart (items P s) (items P t))
apart_says P s t p q =
    says_via _ (items_none P (meet_s s t) (words_meet p q)) (
      λ n. record { apart = λ i. sym (items_meet P s t i) ∙ n.vacant i },
      λ a. record { vacant = λ i. items_meet P s t i ∙ a.apart i },
    )

-- every item of s is one of t
pub within_says : (P : ℕ) (s t : LineSet) → Words s → Words t → Says (is_empty_s (cut_s s t)) (Within (items P s) (items P t))
unfolding ◌∖◌
within_says P s t p q =
    says_via _ (items_none P (cut_s s t) (words_cut p q)) (
      λ n. record { kept = λ i. none (items P s i) (items P t i) (sym (left i) ∙ n.vacant i) },
      λ c. record { vacant = λ i. left i ∙ all (items P s i) (items P t i) (c.kept i) },
    )
  where
    left : (i : ℕ) → items P (cut_s s t) i ≡ (items P s i && not (items P t i))
    left i = ap (λ I. I i) (items_cut P s t)

    none : (a b : Bool) → (a && not b) ≡ false → a ≡ true → b ≡ true
    none true true h k = refl
    none true false h k = absurd (false≢true (sym h))
    none false b h k = absurd (false≢true k)

    all : (a b : Bool) → (a ≡ true → b ≡ true) → (a && not b) ≡ false
    all true true h = refl
    all true false h = sym (h refl)
    all false b h = refl

-- w covers v
covers_says : (P : ℕ) (es : Scope) (w v : Summary) → Words w.used → Words v.used
    → Says (cover_w w v) (Covers (spare es w.slack) (items P w.used) (items P v.used))
unfolding spare
covers_says P es w v p q = at w.slack
  where
    at : (b : Bool) → Says (b || is_empty_s (cut_s v.used w.used)) (Covers (λ i. b) (items P w.used) (items P v.used))
    at true = (λ h. record { cover = λ i k. refl }, λ h. refl)
    at false =
        says_via _ (within_says P v.used w.used q p) (λ c. record { cover = c.kept }, λ c. record { kept = c.cover })

-- three, then four, tests
says_3 : {Q : Type 0} (a b c : Bool) → Says c Q → Says ((a && b) && c) ((a ≡ true) × (b ≡ true) × Q)
says_3 a b c s = says_via _ (says_and (a && b) c (says_and a b (says_self a) (says_self b)) s)
    (λ h. (h.0.0, h.0.1, h.1), λ h. ((h.0, h.1), h.2))

says_4 : {Q R : Type 0} (a b c d : Bool) → Says c Q → Says d R → Says ((a && b) && (c && d)) ((a ≡ true) × (b ≡ true) × Q × R)
says_4 a b c d s t = says_via _ (says_and (a && b) (c && d) (says_and a b (says_self a) (says_self b)) (says_and c d s t))
    (λ h. (h.0.0, h.0.1, h.1.0, h.1.1), λ h. ((h.0, h.1), (h.2, h.3)))

-- The connectives

unused : (P : ℕ) → Empty (items P empty_s)
unfolding is_empty_s empty_s
unused P = (items_none P empty_s words_empty).0 refl

pub ended_gathers : (P : ℕ) (b : Position) (slack : Bool) → Ends (gathered P (ended_w b slack true) []) slack
unfolding gathered
ended_gathers P b slack = record { no_list = refl; unused = unused P; slack_is = refl; is_alive = refl }

pub never_gathers : (P : ℕ) (b : Position) → Fails (gathered P (ended_w b false false) [])
unfolding gathered
never_gathers P b = record { no_list = refl; unused = unused P; slack_is = refl; is_dead = refl }

module _ (P : ℕ) (w v : Summary) (l m : List ℕ) (p : Words w.used) (q : Words v.used) where
  joined : Joins (items P (tensor_w w v).used) (items P w.used) (items P v.used)
  unfolding ◌∪◌
  joined = record { joined = λ i. ap (λ I. I i) (items_join P w.used v.used) }

  pub tensor_gathers : Tensors (gathered P (tensor_w w v) (l ++ m)) (gathered P w l) (gathered P v m)
  unfolding gathered
  tensor_gathers = record {
    lists = refl;
    joined = joined;
    slacks = refl;
    alives = says_3 w.alive v.alive _ (apart_says P w.used v.used p q);
  }

  pub with_gathers : (es : Scope) → Withs es (gathered P (with_w w v) (l ++ m)) (gathered P w l) (gathered P v m)
  unfolding gathered
  with_gathers es = record {
    lists = refl;
    joined = joined;
    slacks = refl;
    alives = says_4 w.alive v.alive _ _ (covers_says P es w v p q) (covers_says P es v w q p);
  }

module _ (P e : ℕ) (low : P ≤ e) (w : Summary) (l : List ℕ) where
  pub lend_gathers : (es : Scope) → size es ≡ e → Lends es (gathered P (without_s w (e - P)) l) (gathered P w l)
  unfolding gathered spare ◌∖◌
  lend_gathers es q = record {
    lists = refl;
    rest = record { without = λ i. ap (λ I. I i) (items_take P w.used e low) ∙ ap (λ x. items P w.used i && not (only x i)) (sym q) };
    slacks = refl;
    alives =
        says_via _ (says_and w.alive _ (says_self w.alive) (says_self (w.slack || member w.used (e - P))))
        (λ h. (h.0, sym here ∙ h.1), λ h. (h.0, here ∙ h.1));
  }
    where
      here : (w.slack || member w.used (e - P)) ≡ (w.slack || items P w.used (size es))
      here = ap (λ b. w.slack || b) (sym (ap (items P w.used) q ∙ items_at_lem P w.used e low))

  pub item_gathers : (due : ℕ) → e - P < 192 → UsesItem e (gathered P (using_w w (e - P) due) (e ∷ l)) (gathered P w l)
  unfolding gathered ◌∪◌
  item_gathers due h = record {
    lists = refl;
    more = record { plus = λ i. ap (λ I. I i) (items_add P w.used e low h) };
    slacks = refl;
    alives =
        says_via _ (says_and w.alive _ (says_self w.alive) (not_free (member w.used (e - P))))
        (λ h. (h.0, items_at_lem P w.used e low ∙ h.1), λ h. (h.0, sym (items_at_lem P w.used e low) ∙ h.1));
  }

pub rule_gathers : (P e : ℕ) (w : Summary) (l : List ℕ) → UsesRule e (gathered P w (e ∷ l)) (gathered P w l)
unfolding gathered
rule_gathers P e w l = record { lists = refl; same = record { same = λ i. refl }; slacks = refl; alives = refl }
