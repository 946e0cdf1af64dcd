-- What a search seeks at an agenda, and what it may say: that there is no such list, or which is the least.
use Rattle.std.specs.Prelude.{ℕ, ◌-◌, ◌+◌, ◌≤◌, ◌≡◌, ◌⊎◌, Bool, true, false, cond, List, [], ◌∷◌, ◌++◌, length}
use Rattle.calculus.specs.Formula.{atomᴳ}
use Rattle.calculus.specs.Items.{Items, ∅, ◌∪◌, ◌∩◌, ◌∖◌, only, Within}
use Rattle.calculus.specs.Derivation.{Scope, size, linear_at}
use Rattle.calculus.specs.Steps.{Before}
use Rattle.calculus.specs.Job.{Job}
use Rattle.calculus.specs.Inner.Summary.{spare, Covers}
use Rattle.calculus.specs.Inner.Window.{tensor_strict, tensor_lax, with_strict, with_lax}
use Rattle.agenda.specs.Inner.Agenda.{Agenda, task, Reads}
use Rattle.agenda.specs.Inner.Order.{Floor, Next, Chosen}

-- Where a search stands.
pub record Place : Type 0 where
  pub done : List ℕ  -- the steps so far
  pub given : List ℕ  -- the floor: the given steps still ahead
  pub from : ℕ  -- the floor: the least step after them
  pub strict : Items  -- items that have to be used
  pub lax : Items  -- items that may be used
  pub room : ℕ  -- how many steps may still be taken

-- the same place with another floor; no floor
abbrev pub floored : Place → List ℕ → ℕ → Place
floored p F f = record { done = p.done; given = F; from = f; strict = p.strict; lax = p.lax; room = p.room }

abbrev pub unfloored : Place → Place
unfloored p = floored p [] 0

-- the same place with other items and room
abbrev pub holding : Place → Items → Items → ℕ → Place
holding p S L r = record { done = p.done; given = p.given; from = p.from; strict = S; lax = L; room = r }

-- past a list of steps, with the floor there and other items
abbrev pub past : Place → List ℕ → List ℕ → ℕ → Items → Items → Place
past p l F f S L = record { done = p.done ++ l; given = F; from = f; strict = S; lax = L; room = p.room - length l }

-- ⊤ in the segment: of the strict items only those that no rest takes still have to be used
abbrev pub eased : Scope → Place → Place
eased es p = holding p (p.strict ∖ spare es true) ((p.strict ∩ spare es true) ∪ p.lax) p.room

-- a part of a segment, which has a window of its own; r steps for it
abbrev pub lead : Place → ℕ → Place
lead p r = holding p ∅ (p.strict ∪ p.lax) r

-- the rest of the segment past a part with the list l that took U, with slack v
abbrev pub past_lead : Scope → Place → List ℕ → List ℕ → ℕ → Items → Bool → Place
past_lead es p l F f U v =
    past p l F f (tensor_strict (spare es v) p.strict U) (tensor_lax (spare es v) p.strict p.lax U)

-- the right part of a & past its left part
abbrev pub past_with : Scope → Place → List ℕ → List ℕ → ℕ → Items → Bool → Place
past_with es p l F f U v = past p l F f (with_strict (spare es v) p.strict U) (with_lax (spare es v) p.lax U)

-- the goal of a lend: the lent clause is strict
abbrev pub lent_place : Scope → Place → Place
lent_place es p = holding p (p.strict ∪ only (size es)) p.lax p.room

-- where the search of a job starts
abbrev pub start_place : Job → Place
start_place j = record { done = []; given = []; from = 0; strict = j.strict; lax = j.lax; room = j.length_limit }

-- what is left of the items once an entry is used, and what its use adds to those used: a rule stays
unfoldable pub spent : Scope → ℕ → Items → Items
spent es e I = cond (linear_at es e) (I ∖ only e) I

unfoldable pub spending : Scope → ℕ → Items → Items
spending es e U = cond (linear_at es e) (U ∪ only e) U

-- past the use of the entry e, with the floor there
abbrev pub past_use : Scope → Place → ℕ → List ℕ → ℕ → Place
past_use es p e F f = past p (e ∷ []) F f (spent es e p.strict) (spent es e p.lax)

-- past a choice
abbrev pub past_choice : Place → ℕ → List ℕ → ℕ → Place
past_choice p c F f = past p (c ∷ []) F f p.strict p.lax

-- The window: only what is at hand is taken and, without slack, all that is strict.
pub record InWindow (es : Scope) (S L U : Items) (v : Bool) : Type 0 where
  pub within : Within U (S ∪ L)
  pub all_strict : Covers (spare es v) U S

-- every reading of A leaves r of the room
pub record Spares (es : Scope) (A : Agenda) (room r : ℕ) : Type 0 where
  pub no_more : r ≤ room
  pub spares : (m : List ℕ) (U : Items) (v : Bool) → Reads es A m U v → room ≤ r + length m

module _ (eligible : List ℕ → ℕ → Bool) where
  -- l is sought at the agenda, and takes U, with slack v
  pub record Sought (es : Scope) (A : Agenda) (p : Place) (l : List ℕ) (U : Items) (v : Bool) : Type 0 where
    pub reads : Reads es A l U v
    pub window : InWindow es p.strict p.lax U v
    pub short : length l ≤ p.room
    pub chosen : Chosen eligible p.done l
    pub floor : Floor l p.given p.from

  -- nothing is sought
  pub record None (es : Scope) (A : Agenda) (p : Place) : Type 0 where
    pub none : (l : List ℕ) (U : Items) (v : Bool) → Sought es A p l U v → ⊥

  -- of all lists sought l is the least
  pub record Least (es : Scope) (A : Agenda) (p : Place) (l : List ℕ) (U : Items) (v : Bool) : Type 0 where
    pub sought : Sought es A p l U v
    pub least : (m : List ℕ) (W : Items) (w : Bool) → Sought es A p m W w → (m ≡ l) ⊎ Before l m

  -- at a name: every list sought begins with e or higher
  pub record Trying (es : Scope) (a n : ℕ) (A : Agenda) (p : Place) (e : ℕ) : Type 0 where
    pub trying : (x : ℕ) (m : List ℕ) (U : Items) (v : Bool) → Sought es (task (atomᴳ a) n ∷ A) p (x ∷ m) U v → e ≤ x

  -- a side of ⊕ is shut: no list sought begins with its choice
  pub record Shut (es : Scope) (A : Agenda) (p : Place) (c : ℕ) : Type 0 where
    pub shut : (m : List ℕ) (U : Items) (v : Bool) → Sought es A p (c ∷ m) U v → ⊥

  -- The part B is raised in place: its lists, sought at pp, begin those sought at the agenda A in p. What is sought in p is not below the
  -- floor (F, f), and what is not below that is not below p's own floor. As long as nothing was raised it is p's own floor; then every
  -- list of the part that is not below it is past p's floor altogether.
  pub record Raised (es : Scope) (B : Agenda) (pp : Place) (A : Agenda) (p : Place) (F : List ℕ) (f : ℕ) (raised : Bool) : Type 0 where
    pub kept : (l : List ℕ) (U : Items) (v : Bool) → Sought es A p l U v → Floor l F f
    pub higher : (l : List ℕ) → Floor l F f → Floor l p.given p.from
    pub fresh : raised ≡ false → (F ≡ p.given) × (f ≡ p.from)
    pub clear : raised ≡ true → (l : List ℕ) (U : Items) (v : Bool) → Sought es B (floored pp F f) l U v
        → Next l p.given p.from [] 0
