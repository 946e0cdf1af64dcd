-- The trays of document 01 that are to be proved (01, "Trays tried by hand"), and trays of 02's new kinds: one list of cards and outcomes,
-- and one statement about derivations; and beside the sample card of 01 one whose list has a rule, a line and a lent clause.
use Rattle.std.specs.Prelude.{ℕ, ◌≡◌, List, [], ◌∷◌}
use Rattle.calculus.specs.Job.{DerivableWithin, First, surely_used}
use Rattle.card.specs.Fault.{Sound}
use Rattle.card.specs.Decode.{job_of}
use Rattle.card.specs.Sheet.{marks_of}
use Rattle.card.specs.Sample.{sample}

-- What a tray's row says: the first list and its marks, or 11.
pub data TrayOutcome : Type 0 where
  planned : List ℕ → List ℕ → TrayOutcome
  no_plan : TrayOutcome

pub record Tray : Type 0 where
  pub bytes : List ℕ
  pub outcome : TrayOutcome

abbrev pub tray : List ℕ → TrayOutcome → Tray
tray bs o = record { bytes = bs; outcome = o }

-- the list is the first of the card's lists within limits, and these are its marks
pub record PlannedAs (bs l m : List ℕ) : Type 0 where
  pub sound : Sound bs
  pub first : First (job_of bs) l
  pub marks : marks_of bs (surely_used first.listed) l ≡ m

-- no derivation within limits exists
pub record Underivable (bs : List ℕ) : Type 0 where
  pub sound : Sound bs
  pub none : DerivableWithin (job_of bs) → ⊥

abbrev pub Comes : List ℕ → TrayOutcome → Type 0
Comes bs (planned l m) = PlannedAs bs l m
Comes bs no_plan = Underivable bs

abbrev pub EachComes : List Tray → Type 0
EachComes [] = Unit {0}
EachComes (t ∷ ts) = Comes t.bytes t.outcome × EachComes ts

-- The starred rows: twelve, one of them with two outcomes; then thirteen of one of, never and menus (02, #103); then four of either way
-- (02, #105).
abbrev pub trays : List Tray
trays =
    -- nothing, done
    tray
    (0 ∷ 16 ∷ 1 ∷ 0 ∷ 0 ∷ 0 ∷ 1 ∷ 0 ∷ 0 ∷ 4 ∷ 8 ∷ 3 ∷ 0 ∷ 0 ∷ 0 ∷ 0 ∷ [])
    (planned [] [])
    ∷
    -- must a, done
    tray
    (0 ∷ 24 ∷ 1 ∷ 0 ∷ 1 ∷ 0 ∷ 2 ∷ 0 ∷ 0 ∷ 4 ∷ 8 ∷ 3 ∷ 0 ∷ 0 ∷ 0 ∷ 0 ∷ 1 ∷ 0 ∷ 1 ∷ 0 ∷ 0 ∷ 0 ∷ 1 ∷ 1 ∷ [])
    no_plan
    ∷
    -- may a, done
    tray
    (0 ∷ 24 ∷ 1 ∷ 0 ∷ 1 ∷ 0 ∷ 2 ∷ 0 ∷ 0 ∷ 4 ∷ 8 ∷ 3 ∷ 0 ∷ 0 ∷ 0 ∷ 0 ∷ 1 ∷ 0 ∷ 1 ∷ 0 ∷ 0 ∷ 0 ∷ 1 ∷ 0 ∷ [])
    (planned [] (0 ∷ []))
    ∷
    -- must a, rest
    tray
    (0 ∷ 24 ∷ 1 ∷ 0 ∷ 1 ∷ 0 ∷ 2 ∷ 0 ∷ 0 ∷ 4 ∷ 8 ∷ 2 ∷ 0 ∷ 0 ∷ 0 ∷ 0 ∷ 1 ∷ 0 ∷ 1 ∷ 0 ∷ 0 ∷ 0 ∷ 1 ∷ 1 ∷ [])
    (planned [] (2 ∷ []))
    ∷
    -- must a, a both a
    tray
    (0 ∷ 24 ∷ 1 ∷ 0 ∷ 1 ∷ 0 ∷ 2 ∷ 0 ∷ 1 ∷ 4 ∷ 8 ∷ 1 ∷ 0 ∷ 1 ∷ 0 ∷ 0 ∷ 4 ∷ 0 ∷ 0 ∷ 0 ∷ 0 ∷ 0 ∷ 0 ∷ 1 ∷ [])
    no_plan
    ∷
    -- must a, must a, a both a
    tray
    (0 ∷ 27 ∷ 1 ∷ 0 ∷ 2 ∷ 0 ∷ 2 ∷ 0 ∷ 1 ∷ 4 ∷ 8 ∷ 1 ∷ 0 ∷ 1 ∷ 0 ∷ 0 ∷ 4 ∷ 0 ∷ 0 ∷ 0 ∷ 0 ∷ 0 ∷ 0 ∷ 1 ∷ 0 ∷ 0 ∷ 1 ∷ [])
    (planned (0 ∷ 1 ∷ []) (1 ∷ 1 ∷ []))
    ∷
    -- must a, a either way a
    tray
    (0 ∷ 24 ∷ 1 ∷ 0 ∷ 1 ∷ 0 ∷ 2 ∷ 0 ∷ 1 ∷ 4 ∷ 8 ∷ 1 ∷ 0 ∷ 1 ∷ 0 ∷ 0 ∷ 5 ∷ 0 ∷ 0 ∷ 0 ∷ 0 ∷ 0 ∷ 0 ∷ 1 ∷ [])
    (planned (0 ∷ 0 ∷ []) (1 ∷ []))
    ∷
    -- must a, must b, rest both a
    tray
    (0 ∷ 37 ∷ 1 ∷ 0 ∷ 2 ∷ 0 ∷ 4 ∷ 0 ∷ 2 ∷ 4 ∷ 8 ∷ 2 ∷ 0 ∷ 0 ∷ 0 ∷ 0 ∷ 1 ∷ 0 ∷ 1 ∷ 0 ∷ 0 ∷ 4 ∷ 0 ∷ 0 ∷ 0 ∷ 1 ∷ 1 ∷ 0 ∷ 2 ∷ 0
    ∷ 0 ∷ 0 ∷ 1 ∷ 1 ∷ 0 ∷ 3 ∷ 1 ∷ [])
    (planned (0 ∷ []) (1 ∷ 2 ∷ []))
    ∷
    -- may a, must a, a
    tray
    (0 ∷ 22 ∷ 1 ∷ 0 ∷ 2 ∷ 0 ∷ 1 ∷ 0 ∷ 0 ∷ 4 ∷ 8 ∷ 1 ∷ 0 ∷ 1 ∷ 0 ∷ 0 ∷ 0 ∷ 0 ∷ 0 ∷ 0 ∷ 0 ∷ 1 ∷ [])
    (planned (1 ∷ []) (0 ∷ 1 ∷ []))
    ∷
    -- rules a; b; a gives (b gives c); goal c
    tray
    (0 ∷ 42 ∷ 1 ∷ 3 ∷ 0 ∷ 0 ∷ 5 ∷ 0 ∷ 0 ∷ 4 ∷ 8 ∷ 1 ∷ 0 ∷ 3 ∷ 0 ∷ 0 ∷ 1 ∷ 0 ∷ 1 ∷ 0 ∷ 0 ∷ 1 ∷ 0 ∷ 2 ∷ 0 ∷ 0 ∷ 7 ∷ 0 ∷ 2 ∷ 0
    ∷ 0 ∷ 7 ∷ 0 ∷ 1 ∷ 0 ∷ 3 ∷ 0 ∷ 1 ∷ 0 ∷ 2 ∷ 0 ∷ 4 ∷ [])
    (planned (2 ∷ 1 ∷ 0 ∷ []) [])
    ∷
    -- the same with d = 1
    tray
    (0 ∷ 42 ∷ 1 ∷ 3 ∷ 0 ∷ 0 ∷ 5 ∷ 0 ∷ 0 ∷ 1 ∷ 8 ∷ 1 ∷ 0 ∷ 3 ∷ 0 ∷ 0 ∷ 1 ∷ 0 ∷ 1 ∷ 0 ∷ 0 ∷ 1 ∷ 0 ∷ 2 ∷ 0 ∷ 0 ∷ 7 ∷ 0 ∷ 2 ∷ 0
    ∷ 0 ∷ 7 ∷ 0 ∷ 1 ∷ 0 ∷ 3 ∷ 0 ∷ 1 ∷ 0 ∷ 2 ∷ 0 ∷ 4 ∷ [])
    no_plan
    ∷
    -- lend a to a
    tray
    (0 ∷ 21 ∷ 1 ∷ 0 ∷ 0 ∷ 0 ∷ 2 ∷ 0 ∷ 1 ∷ 4 ∷ 8 ∷ 1 ∷ 0 ∷ 1 ∷ 0 ∷ 0 ∷ 6 ∷ 0 ∷ 0 ∷ 0 ∷ 0 ∷ [])
    (planned (0 ∷ []) [])
    ∷
    -- (lend a to done) both rest
    tray
    (0 ∷ 36 ∷ 1 ∷ 0 ∷ 0 ∷ 0 ∷ 5 ∷ 0 ∷ 4 ∷ 4 ∷ 8 ∷ 1 ∷ 0 ∷ 1 ∷ 0 ∷ 0 ∷ 3 ∷ 0 ∷ 0 ∷ 0 ∷ 0 ∷ 6 ∷ 0 ∷ 0 ∷ 0 ∷ 1 ∷ 2 ∷ 0 ∷ 0 ∷ 0
    ∷ 0 ∷ 4 ∷ 0 ∷ 2 ∷ 0 ∷ 3 ∷ [])
    no_plan
    ∷
    -- may a, may b, a one of b: left works
    tray
    (0 ∷ 32 ∷ 1 ∷ 0 ∷ 2 ∷ 0 ∷ 3 ∷ 0 ∷ 2 ∷ 4 ∷ 8 ∷ 1 ∷ 0 ∷ 1 ∷ 0 ∷ 0 ∷ 1 ∷ 0 ∷ 2 ∷ 0 ∷ 0 ∷ 8 ∷ 0 ∷ 0 ∷ 0 ∷ 1 ∷ 0 ∷ 0 ∷ 0 ∷ 0
    ∷ 1 ∷ 0 ∷ [])
    (planned (254 ∷ 0 ∷ []) (1 ∷ 0 ∷ []))
    ∷
    -- must b, a one of b: left fails, right works
    tray
    (0 ∷ 29 ∷ 1 ∷ 0 ∷ 1 ∷ 0 ∷ 3 ∷ 0 ∷ 2 ∷ 4 ∷ 8 ∷ 1 ∷ 0 ∷ 1 ∷ 0 ∷ 0 ∷ 1 ∷ 0 ∷ 2 ∷ 0 ∷ 0 ∷ 8 ∷ 0 ∷ 0 ∷ 0 ∷ 1 ∷ 0 ∷ 1 ∷ 1
    ∷ [])
    (planned (255 ∷ 0 ∷ []) (1 ∷ []))
    ∷
    -- nothing, never
    tray
    (0 ∷ 16 ∷ 1 ∷ 0 ∷ 0 ∷ 0 ∷ 1 ∷ 0 ∷ 0 ∷ 4 ∷ 8 ∷ 9 ∷ 0 ∷ 0 ∷ 0 ∷ 0 ∷ [])
    no_plan
    ∷
    -- must a, never one of a
    tray
    (0 ∷ 29 ∷ 1 ∷ 0 ∷ 1 ∷ 0 ∷ 3 ∷ 0 ∷ 2 ∷ 4 ∷ 8 ∷ 9 ∷ 0 ∷ 0 ∷ 0 ∷ 0 ∷ 1 ∷ 0 ∷ 1 ∷ 0 ∷ 0 ∷ 8 ∷ 0 ∷ 0 ∷ 0 ∷ 1 ∷ 0 ∷ 1 ∷ 1
    ∷ [])
    (planned (255 ∷ 0 ∷ []) (1 ∷ []))
    ∷
    -- must (a menu b), a
    tray
    (0 ∷ 29 ∷ 1 ∷ 0 ∷ 1 ∷ 0 ∷ 3 ∷ 0 ∷ 0 ∷ 4 ∷ 8 ∷ 1 ∷ 0 ∷ 1 ∷ 0 ∷ 0 ∷ 1 ∷ 0 ∷ 2 ∷ 0 ∷ 0 ∷ 10 ∷ 0 ∷ 0 ∷ 0 ∷ 1 ∷ 0 ∷ 2 ∷ 1
    ∷ [])
    (planned (0 ∷ 254 ∷ []) (1 ∷ []))
    ∷
    -- must (a menu b), b
    tray
    (0 ∷ 29 ∷ 1 ∷ 0 ∷ 1 ∷ 0 ∷ 3 ∷ 0 ∷ 0 ∷ 4 ∷ 8 ∷ 1 ∷ 0 ∷ 2 ∷ 0 ∷ 0 ∷ 1 ∷ 0 ∷ 1 ∷ 0 ∷ 0 ∷ 10 ∷ 0 ∷ 1 ∷ 0 ∷ 0 ∷ 0 ∷ 2 ∷ 1
    ∷ [])
    (planned (0 ∷ 255 ∷ []) (1 ∷ []))
    ∷
    -- must b gives ((c gives a) menu a), must b, may c, a: entry, left, c, b
    tray
    (0 ∷ 50 ∷ 1 ∷ 0 ∷ 3 ∷ 0 ∷ 6 ∷ 0 ∷ 0 ∷ 4 ∷ 8 ∷ 1 ∷ 0 ∷ 1 ∷ 0 ∷ 0 ∷ 1 ∷ 0 ∷ 2 ∷ 0 ∷ 0 ∷ 1 ∷ 0 ∷ 3 ∷ 0 ∷ 0 ∷ 7 ∷ 0 ∷ 2 ∷ 0
    ∷ 0 ∷ 10 ∷ 0 ∷ 3 ∷ 0 ∷ 0 ∷ 7 ∷ 0 ∷ 1 ∷ 0 ∷ 4 ∷ 0 ∷ 5 ∷ 1 ∷ 0 ∷ 1 ∷ 1 ∷ 0 ∷ 2 ∷ 0 ∷ [])
    (planned (0 ∷ 254 ∷ 2 ∷ 1 ∷ []) (1 ∷ 1 ∷ 1 ∷ []))
    ∷
    -- the same without c: entry, right, b
    tray
    (0 ∷ 47 ∷ 1 ∷ 0 ∷ 2 ∷ 0 ∷ 6 ∷ 0 ∷ 0 ∷ 4 ∷ 8 ∷ 1 ∷ 0 ∷ 1 ∷ 0 ∷ 0 ∷ 1 ∷ 0 ∷ 2 ∷ 0 ∷ 0 ∷ 1 ∷ 0 ∷ 3 ∷ 0 ∷ 0 ∷ 7 ∷ 0 ∷ 2 ∷ 0
    ∷ 0 ∷ 10 ∷ 0 ∷ 3 ∷ 0 ∷ 0 ∷ 7 ∷ 0 ∷ 1 ∷ 0 ∷ 4 ∷ 0 ∷ 5 ∷ 1 ∷ 0 ∷ 1 ∷ 1 ∷ [])
    (planned (0 ∷ 255 ∷ 1 ∷ []) (1 ∷ 1 ∷ []))
    ∷
    -- must ((a menu b) menu c), b
    tray
    (0 ∷ 39 ∷ 1 ∷ 0 ∷ 1 ∷ 0 ∷ 5 ∷ 0 ∷ 0 ∷ 4 ∷ 8 ∷ 1 ∷ 0 ∷ 2 ∷ 0 ∷ 0 ∷ 1 ∷ 0 ∷ 1 ∷ 0 ∷ 0 ∷ 10 ∷ 0 ∷ 1 ∷ 0 ∷ 0 ∷ 1 ∷ 0 ∷ 3
    ∷ 0 ∷ 0 ∷ 10 ∷ 0 ∷ 2 ∷ 0 ∷ 3 ∷ 0 ∷ 4 ∷ 1 ∷ [])
    (planned (0 ∷ 254 ∷ 255 ∷ []) (1 ∷ []))
    ∷
    -- must b, a one of b with s = 2
    tray
    (0 ∷ 29 ∷ 1 ∷ 0 ∷ 1 ∷ 0 ∷ 3 ∷ 0 ∷ 2 ∷ 4 ∷ 2 ∷ 1 ∷ 0 ∷ 1 ∷ 0 ∷ 0 ∷ 1 ∷ 0 ∷ 2 ∷ 0 ∷ 0 ∷ 8 ∷ 0 ∷ 0 ∷ 0 ∷ 1 ∷ 0 ∷ 1 ∷ 1
    ∷ [])
    (planned (255 ∷ 0 ∷ []) (1 ∷ []))
    ∷
    -- the same with s = 1
    tray
    (0 ∷ 29 ∷ 1 ∷ 0 ∷ 1 ∷ 0 ∷ 3 ∷ 0 ∷ 2 ∷ 4 ∷ 1 ∷ 1 ∷ 0 ∷ 1 ∷ 0 ∷ 0 ∷ 1 ∷ 0 ∷ 2 ∷ 0 ∷ 0 ∷ 8 ∷ 0 ∷ 0 ∷ 0 ∷ 1 ∷ 0 ∷ 1 ∷ 1
    ∷ [])
    no_plan
    ∷
    -- must (a menu b), a with s = 1
    tray
    (0 ∷ 29 ∷ 1 ∷ 0 ∷ 1 ∷ 0 ∷ 3 ∷ 0 ∷ 0 ∷ 4 ∷ 1 ∷ 1 ∷ 0 ∷ 1 ∷ 0 ∷ 0 ∷ 1 ∷ 0 ∷ 2 ∷ 0 ∷ 0 ∷ 10 ∷ 0 ∷ 0 ∷ 0 ∷ 1 ∷ 0 ∷ 2 ∷ 1
    ∷ [])
    no_plan
    ∷
    -- (a one of done) both (done one of a) with d = 0
    tray
    (0 ∷ 36 ∷ 1 ∷ 0 ∷ 0 ∷ 0 ∷ 5 ∷ 0 ∷ 4 ∷ 0 ∷ 8 ∷ 1 ∷ 0 ∷ 1 ∷ 0 ∷ 0 ∷ 3 ∷ 0 ∷ 0 ∷ 0 ∷ 0 ∷ 8 ∷ 0 ∷ 0 ∷ 0 ∷ 1 ∷ 8 ∷ 0 ∷ 1 ∷ 0
    ∷ 0 ∷ 4 ∷ 0 ∷ 2 ∷ 0 ∷ 3 ∷ [])
    (planned (255 ∷ 254 ∷ []) [])
    ∷
    -- must a, a either way rest
    tray
    (0 ∷ 29 ∷ 1 ∷ 0 ∷ 1 ∷ 0 ∷ 3 ∷ 0 ∷ 2 ∷ 4 ∷ 8 ∷ 1 ∷ 0 ∷ 1 ∷ 0 ∷ 0 ∷ 2 ∷ 0 ∷ 0 ∷ 0 ∷ 0 ∷ 5 ∷ 0 ∷ 0 ∷ 0 ∷ 1 ∷ 0 ∷ 0 ∷ 1
    ∷ [])
    (planned (0 ∷ []) (3 ∷ []))
    ∷
    -- must a, must b, a both (b either way rest)
    tray
    (0 ∷ 42 ∷ 1 ∷ 0 ∷ 2 ∷ 0 ∷ 5 ∷ 0 ∷ 4 ∷ 4 ∷ 8 ∷ 1 ∷ 0 ∷ 1 ∷ 0 ∷ 0 ∷ 1 ∷ 0 ∷ 2 ∷ 0 ∷ 0 ∷ 2 ∷ 0 ∷ 0 ∷ 0 ∷ 0 ∷ 5 ∷ 0 ∷ 1 ∷ 0
    ∷ 2 ∷ 4 ∷ 0 ∷ 0 ∷ 0 ∷ 3 ∷ 0 ∷ 0 ∷ 1 ∷ 0 ∷ 1 ∷ 1 ∷ [])
    (planned (0 ∷ 1 ∷ []) (1 ∷ 3 ∷ []))
    ∷
    -- must a, must b, (a both rest) either way (b both a)
    tray
    (0 ∷ 47 ∷ 1 ∷ 0 ∷ 2 ∷ 0 ∷ 6 ∷ 0 ∷ 5 ∷ 4 ∷ 8 ∷ 1 ∷ 0 ∷ 1 ∷ 0 ∷ 0 ∷ 2 ∷ 0 ∷ 0 ∷ 0 ∷ 0 ∷ 4 ∷ 0 ∷ 0 ∷ 0 ∷ 1 ∷ 1 ∷ 0 ∷ 2 ∷ 0
    ∷ 0 ∷ 4 ∷ 0 ∷ 3 ∷ 0 ∷ 0 ∷ 5 ∷ 0 ∷ 2 ∷ 0 ∷ 4 ∷ 0 ∷ 0 ∷ 1 ∷ 0 ∷ 3 ∷ 1 ∷ [])
    (planned (0 ∷ 1 ∷ 0 ∷ []) (1 ∷ 3 ∷ []))
    ∷
    -- rule a gives c, must a, a either way c
    tray
    (0 ∷ 36 ∷ 1 ∷ 1 ∷ 1 ∷ 0 ∷ 4 ∷ 0 ∷ 2 ∷ 4 ∷ 8 ∷ 1 ∷ 0 ∷ 1 ∷ 0 ∷ 0 ∷ 1 ∷ 0 ∷ 3 ∷ 0 ∷ 0 ∷ 5 ∷ 0 ∷ 0 ∷ 0 ∷ 1 ∷ 7 ∷ 0 ∷ 0 ∷ 0
    ∷ 1 ∷ 0 ∷ 3 ∷ 0 ∷ 0 ∷ 1 ∷ [])
    (planned (1 ∷ 0 ∷ 1 ∷ []) (1 ∷ []))
    ∷ []

-- A rule, a line and a lent clause: rule b and a give c; must a; goal lend b to c; d = 2, s = 3.
abbrev pub mixed : List ℕ
mixed =
    0x00 ∷ 0x2E ∷ 0x01 ∷ 0x01 ∷ 0x01 ∷ 0x00 ∷ 0x06 ∷ 0x00 ∷ 0x02 ∷ 0x02 ∷ 0x03 ∷ 0x01 ∷ 0x00 ∷ 0x02 ∷ 0x00 ∷ 0x00 ∷ 0x01
    ∷ 0x00 ∷ 0x03 ∷ 0x00 ∷ 0x00 ∷ 0x06 ∷ 0x00 ∷ 0x00 ∷ 0x00 ∷ 0x01 ∷ 0x01 ∷ 0x00 ∷ 0x01 ∷ 0x00 ∷ 0x00 ∷ 0x07 ∷ 0x00 ∷ 0x00
    ∷ 0x00 ∷ 0x01 ∷ 0x07 ∷ 0x00 ∷ 0x03 ∷ 0x00 ∷ 0x04 ∷ 0x00 ∷ 0x05 ∷ 0x00 ∷ 0x03 ∷ 0x01 ∷ []

-- Their lists and marks.
abbrev pub samples : List Tray
samples = tray sample (planned (1 ∷ 0 ∷ []) (1 ∷ 1 ∷ 0 ∷ [])) ∷ tray mixed (planned (0 ∷ 2 ∷ 1 ∷ []) (1 ∷ [])) ∷ []

-- The second one's sheet.
abbrev pub mixed_sheet : List ℕ
mixed_sheet = 0x00 ∷ 0x09 ∷ 0x01 ∷ 0x03 ∷ 0x01 ∷ 0x00 ∷ 0x02 ∷ 0x01 ∷ 0x01 ∷ []
