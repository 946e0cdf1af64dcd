-- Where nothing is readable nothing is for other steps with the same lines, with less room and from any floor on; so a row tells it of
-- every branch with its key, and a memory that is told of it stays honest.
use Prim.Native.Nat.{ℕ, zero, suc, ◌+◌, ◌-◌, ◌*◌, ◌≤◌, ◌<◌}
use native.Mathlib.Decide.{ℕ_discrete, dec_lt}
use native.Mathlib.Omega.{arith}
use mathlib.Core.Path.{◌≡◌, refl, sym, ◌∙◌, ap, ap₂}
use mathlib.Core.Logic.{◌⊎◌, inl, inr}
use mathlib.Core.List.{List, [], ◌∷◌}
use lib.ListN.{length, get_or, drop, replicate, length-replicate, get_or-replicate}
use lib.Seq.{get_or-drop}
use Rattle.calculus.specs.Items.{Items}
use Rattle.calculus.specs.Derivation.{Scope}
use Rattle.card.specs.Format.{rule_count}
use Rattle.scope.specs.Inner.Sets.{items}
use Rattle.agenda.specs.Inner.Agenda.{Agenda}
use Rattle.agenda.specs.Inner.Sought.{Place, None}
use Rattle.agenda.proofs.SearchTells.{dead_none}
use Rattle.lines.specs.declared.LineWord.{LineWord}
use Rattle.entries.specs.Inner.Twins.{eligible}
use Rattle.entries.specs.Inner.Masks.{Seen}
use Rattle.branch.specs.declared.Branch.{Branch}
use Rattle.segment.specs.Inner.Tasks.{task_of, agenda_of}
use Rattle.dead.specs.Inner.Rows.{row_count, row_width, code_cells, word_cells}
use Rattle.keys.specs.Inner.Keys.{key_words}
use Rattle.dead.specs.Inner.Rows.{key_row, memory_word, row_strict, row_lax, row_seen, row_len, row_room, row_agenda, SameRow, Put, Stored, Recorded}
use Rattle.dead.specs.Inner.Barren.{open_place, Barren, BarrenIn, BarrenRow, Honest}
use Rattle.dead.proofs.RowsKept.{row_below}
use Rattle.dead.proofs.LinesDecide.{seen_lines, chosen_same}

-- Barren agendas

-- THEOREM. Where the agenda is barren nothing is sought, from any floor on.
pub barren_none : {bs : List ℕ} {es : Scope} {A : Agenda} {S L : Items} {seen : LineWord} {r : ℕ} → Barren bs es A S L seen r
    → (p : Place) → Seen bs seen p.done → p.strict ≡ S → p.lax ≡ L → p.room ≤ r → None (eligible bs) es A p
barren_none {bs} {S} {L} {r} b p s e f h =
    dead_none (eligible bs) (open_place p.done S L r) p (b.barren p.done s) e f h (λ m c. c)

-- THEOREM. Where nothing is sought from no floor on the agenda is barren: what goes on eligibly goes by the lines seen.
pub none_barren : {bs : List ℕ} {es : Scope} {A : Agenda} {seen : LineWord} (p : Place) → None (eligible bs) es A p → p.given ≡ []
    → p.from ≡ 0 → Seen bs seen p.done → Barren bs es A p.strict p.lax seen p.room
none_barren {bs} {es} {A} {seen} p h g f s = record {
  barren = λ done t.
      dead_none (eligible bs) p (open_place done p.strict p.lax p.room) (rw g at (rw f at h)) refl refl (omega arith)
      (λ m c. chosen_same (seen_lines t s) c);
}

-- the same key, and no more room
barren_at : {bs : List ℕ} {es : Scope} {A A' : Agenda} {S S' L L' : Items} {seen seen' : LineWord} {r r' : ℕ}
    → Barren bs es A S L seen r → A' ≡ A → S' ≡ S → L' ≡ L → seen' ≡ seen → r' ≤ r → Barren bs es A' S' L' seen' r'
barren_at {bs} {es} {A} {A'} {S} {S'} {L} {L'} {seen} {seen'} {r} {r'} b a s l w h = record {
  barren = λ done t. rw a (barren_none b (open_place done S' L' r') (rw w at t) s l h);
}

-- Rows

-- the row's codes are the agenda's
row_agenda_lem : (bs codes agenda : List ℕ) (at n : ℕ) → SameRow codes at agenda n → agenda_of bs agenda n ≡ agenda_of bs (drop at codes) n
unfolding agenda_of
row_agenda_lem bs codes agenda at zero s = refl
row_agenda_lem bs codes agenda at (suc n) s =
    ap₂ (λ c A. task_of bs c ∷ A) (sym (s.same n (omega arith)) ∙ sym (get_or-drop at codes n 0))
    (row_agenda_lem bs codes agenda at n (record { same = λ i h. s.same i (omega arith) }))

module _ {words : List ℕ} (row : ℕ) (b : Branch) (s : SameRow words (row * 9) (key_words b) 8) where
  row_strict_lem : b.strict ≡ row_strict words row
  unfolding row_strict memory_word
  row_strict_lem = rw (s.same 0 (omega arith), s.same 1 (omega arith), s.same 2 (omega arith)) refl

  row_lax_lem : b.lax ≡ row_lax words row
  unfolding row_lax memory_word
  row_lax_lem = rw (s.same 3 (omega arith), s.same 4 (omega arith), s.same 5 (omega arith)) refl

  row_seen_lem : b.seen ≡ row_seen words row
  unfolding row_seen memory_word
  row_seen_lem = λ i. record { bits = sym (s.same 6 (omega arith)) i }

  row_len_lem : b.len ≡ row_len words row
  unfolding row_len memory_word
  row_len_lem = sym (s.same 7 (omega arith))

module _ (bs : List ℕ) {codes words agenda : List ℕ} (row : ℕ) (b : Branch) (s : SameRow words (row * 9) (key_words b) 8)
    (t : SameRow codes (row * row_width) agenda b.len) where
  agenda_is : agenda_of bs agenda b.len ≡ row_agenda bs codes words row
  unfolding row_agenda
  agenda_is = row_agenda_lem bs codes agenda (row * row_width) b.len t ∙ ap (agenda_of bs (drop (row * row_width) codes)) (row_len_lem row b s)

  -- a row with the branch's key and as much room
  row_barren : {es : Scope} → BarrenRow bs es codes words row → b.limit - b.at ≤ row_room words row → BarrenIn bs es agenda b
  row_barren h r =
      barren_at h agenda_is (ap (items (rule_count bs)) (row_strict_lem row b s)) (ap (items (rule_count bs)) (row_lax_lem row b s))
      (row_seen_lem row b s) r

  barren_row : {es : Scope} → BarrenIn bs es agenda b → row_room words row ≡ b.limit - b.at → BarrenRow bs es codes words row
  barren_row h r =
      barren_at h (sym agenda_is) (ap (items (rule_count bs)) (sym (row_strict_lem row b s))) (ap (items (rule_count bs)) (sym (row_lax_lem row b s)))
      (sym (row_seen_lem row b s)) (omega arith)

-- THEOREM. What is stored is barren.
pub stored_barren : {bs codes words agenda : List ℕ} {es : Scope} {b : Branch} → Honest bs es codes words → 1 ≤ b.len
    → Stored codes words agenda b → BarrenIn bs es agenda b
stored_barren {bs} {agenda = agenda} {b = b} honest n k =
    let row = key_row agenda b in
    row_barren bs row b k.key k.tasks (honest.rows row (row_below agenda b) (let e = row_len_lem row b k.key in omega arith)) k.room

-- A row whose places are as they were says what it said.
module _ (words words' : List ℕ) (row : ℕ) (s : (j : ℕ) → j < 9 → memory_word words' row j ≡ memory_word words row j) where
  kept_len : row_len words' row ≡ row_len words row
  unfolding row_len
  kept_len = s 7 (omega arith)

  kept_strict : row_strict words' row ≡ row_strict words row
  unfolding row_strict
  kept_strict = rw (s 0 (omega arith), s 1 (omega arith), s 2 (omega arith)) refl

  kept_lax : row_lax words' row ≡ row_lax words row
  unfolding row_lax
  kept_lax = rw (s 3 (omega arith), s 4 (omega arith), s 5 (omega arith)) refl

  kept_seen : row_seen words' row ≡ row_seen words row
  unfolding row_seen
  kept_seen = λ i. record { bits = s 6 (omega arith) i }

  kept_room : row_room words' row ≡ row_room words row
  unfolding row_room
  kept_room = s 8 (omega arith)

  module _ (bs codes codes' : List ℕ) (t : SameRow codes (row * row_width) (drop (row * row_width) codes') row_width)
      (h : row_len words row ≤ row_width) where
    kept_agenda : row_agenda bs codes' words' row ≡ row_agenda bs codes words row
    unfolding row_agenda
    kept_agenda =
        ap (agenda_of bs (drop (row * row_width) codes')) kept_len
        ∙ row_agenda_lem bs codes (drop (row * row_width) codes') (row * row_width) (row_len words row)
        (record { same = λ i l. t.same i (omega arith) })

    kept_row : {es : Scope} → BarrenRow bs es codes words row → BarrenRow bs es codes' words' row
    kept_row b =
        barren_at b kept_agenda (ap (items (rule_count bs)) kept_strict) (ap (items (rule_count bs)) kept_lax) kept_seen
        (omega (arith, kept_room))

-- A row is told, and the others are as they were.
module _ {codes codes' words words' agenda : List ℕ} (row : ℕ) (b : Branch) (short : b.len ≤ row_width)
    (p : Put codes codes' (row * row_width) agenda b.len) (q : Put words words' (row * 9) (key_words b) 9) where
  other_words : (k : ℕ) → (k ≡ row → ⊥) → (j : ℕ) → j < 9 → memory_word words' k j ≡ memory_word words k j
  unfolding memory_word
  other_words k d j h = q.others (k * 9 + j) (go (dec_lt k row))
    where
      go : Dec (k < row) → (k * 9 + j < row * 9) ⊎ (row * 9 + 9 ≤ k * 9 + j)
      go (yes l) = inl (omega arith)
      go (no l) = inr (omega arith)

  other_codes : (k : ℕ) → (k ≡ row → ⊥) → SameRow codes (k * row_width) (drop (k * row_width) codes') row_width
  other_codes k d = record {
    same = λ i h. sym (get_or-drop (k * row_width) codes' i 0 ∙ p.others (k * row_width + i) (go i h (dec_lt k row)));
  }
    where
      go : (i : ℕ) → i < row_width → Dec (k < row) → (k * row_width + i < row * row_width) ⊎ (row * row_width + b.len ≤ k * row_width + i)
      go i h (yes l) = inl (omega arith)
      go i h (no l) = inr (omega arith)

  told_len : row_len words' row ≡ b.len
  unfolding row_len memory_word
  told_len = q.here.same 7 (omega arith)

  told_room : row_room words' row ≡ b.limit - b.at
  unfolding row_room memory_word
  told_room = q.here.same 8 (omega arith)

  told_row : {bs : List ℕ} {es : Scope} → BarrenIn bs es agenda b → BarrenRow bs es codes' words' row
  told_row {bs} h = barren_row bs row b (record { same = λ i l. q.here.same i (omega arith) }) p.here h told_room

  told_short : {bs : List ℕ} {es : Scope} → Honest bs es codes words → (k : ℕ) → k < row_count → row_len words' k ≤ row_width
  told_short {bs} honest k l = go (ℕ_discrete k row)
    where
      go : Dec (k ≡ row) → row_len words' k ≤ row_width
      go (yes e) = rw e (omega (arith, told_len))
      go (no d) = omega (arith, kept_len words words' k (other_words k d), honest.short k l)

  told_rows : {bs : List ℕ} {es : Scope} → Honest bs es codes words → BarrenIn bs es agenda b → (k : ℕ) → k < row_count
      → 1 ≤ row_len words' k → BarrenRow bs es codes' words' k
  told_rows {bs} {es} honest h k l n = go (ℕ_discrete k row)
    where
      go : Dec (k ≡ row) → BarrenRow bs es codes' words' k
      go (yes e) = rw e (told_row h)
      go (no d) =
          let same = kept_len words words' k (other_words k d) in
          kept_row words words' k (other_words k d) bs codes codes' (other_codes k d) (honest.short k l) (honest.rows k l (omega arith))

  told_all : {bs : List ℕ} {es : Scope} → Honest bs es codes words → BarrenIn bs es agenda b → Honest bs es codes' words'
  told_all honest h = record {
    code_room = p.room ∙ honest.code_room;
    word_room = q.room ∙ honest.word_room;
    short = told_short honest;
    rows = told_rows honest h;
  }

-- THEOREM. A memory that is told of a barren agenda stays honest.
pub recorded_honest : {bs codes words codes' words' agenda : List ℕ} {es : Scope} {b : Branch} → Honest bs es codes words
    → BarrenIn bs es agenda b → Recorded codes words codes' words' agenda b → Honest bs es codes' words'
recorded_honest {bs} {codes} {words} {codes'} {words'} {agenda} {es} {b} honest h t = go (dec_lt row_width b.len)
  where
    go : Dec (row_width < b.len) → Honest bs es codes' words'
    go (yes l) = rw ((t.long l).0, (t.long l).1) honest
    go (no l) = told_all (key_row agenda b) b (omega arith) (t.tasks (omega arith)) (t.key (omega arith)) honest h

-- THEOREM. A memory of zeros is honest.
pub honest_none : {bs codes words : List ℕ} {es : Scope} → length codes ≡ code_cells → length words ≡ word_cells
    → ((i : ℕ) → i < word_cells → get_or words i 0 ≡ 0) → Honest bs es codes words
unfolding row_len memory_word
honest_none {words} c w z =
    let free : (row : ℕ) → row < row_count → get_or words (row * 9 + 7) 0 ≡ 0 = λ row h. z (row * 9 + 7) (omega arith) in
    record {
      code_room = c;
      word_room = w;
      short = λ row h. omega (arith, free row h);
      rows = λ row h n. absurd (omega (arith, free row h));
    }

-- as it is made
pub honest_new : {bs : List ℕ} {es : Scope} → Honest bs es (replicate code_cells 0) (replicate word_cells 0)
honest_new =
    honest_none (length-replicate {A = ℕ} code_cells 0) (length-replicate {A = ℕ} word_cells 0)
    (λ i h. get_or-replicate {A = ℕ} word_cells i 0 0 h)
