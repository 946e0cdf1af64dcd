-- What is written into the arrays of a table keeps to their types.
use Prim.Native.Nat.{ℕ, ◌<◌}
use native.Mathlib.Decide.{ℕ_discrete, dec_lt}
use native.Mathlib.Omega.{arith}
use mathlib.Core.Path.{◌≡◌, ◌∙◌}
use mathlib.Core.List.{List}
use lib.ListN.{length, get_or, set, replicate, length-set, length-replicate, get_or-replicate, get_or-eq_default}
use lib.Seq.{get_or-set_same, get_or-set_other}
use Rattle.bounds.specs.Inner.Table.{NameCells, TableCells}

cell_set : (m : ℕ) (xs : List ℕ) (i v : ℕ) → i < length xs → v < m → ((j : ℕ) → get_or xs j 0 < m) → (j : ℕ) → get_or (set xs i v) j 0 < m
cell_set m xs i v h l p j = at (ℕ_discrete j i)
  where
    at : Dec (j ≡ i) → get_or (set xs i v) j 0 < m
    at (yes e) = rw (e, get_or-set_same xs i v 0 h) l
    at (no e) = rw (get_or-set_other xs i j v 0 e) (p j)

pub table_set : {t : List ℕ} (i v : ℕ) → TableCells t → i < 66177 → v < 256 → TableCells (set t i v)
table_set {t} i v c h l =
    record { room = length-set t i v ∙ c.room; byte = cell_set 256 t i v (omega (arith, c.room)) l c.byte }

pub name_set : {names : List ℕ} (i v : ℕ) → NameCells names → i < 1577 → v < 65536 → NameCells (set names i v)
name_set {names} i v c h l =
    record { room = length-set names i v ∙ c.room; word = cell_set 65536 names i v (omega (arith, c.room)) l c.word }

-- new arrays, of zeros
zero_cell : (m n : ℕ) → 0 < m → (i : ℕ) → get_or (replicate n 0) i 0 < m
zero_cell m n h i = at (dec_lt i n)
  where
    at : Dec (i < n) → get_or (replicate n 0) i 0 < m
    at (yes l) = rw (get_or-replicate {A = ℕ} n i 0 0 l) h
    at (no l) = rw (get_or-eq_default (replicate {A = ℕ} n 0) 0 {n = i} (omega (arith, length-replicate {A = ℕ} n 0))) h

pub new_table : (n : ℕ) → n ≡ 66177 → TableCells (replicate n 0)
new_table n e = record { room = length-replicate {A = ℕ} n 0 ∙ e; byte = zero_cell 256 n (omega arith) }

pub new_names : (n : ℕ) → n ≡ 1577 → NameCells (replicate n 0)
new_names n e = record { room = length-replicate {A = ℕ} n 0 ∙ e; word = zero_cell 65536 n (omega arith) }
