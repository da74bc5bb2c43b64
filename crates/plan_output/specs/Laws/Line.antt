-- Laws of the lines: bytes put behind a line at the buffer's start make it longer, what fields a line has,
-- and that it fits the line buffer.
use Rattle.std.specs.Prelude.{ℕ, ◌+◌, ◌^◌, ◌≤◌, ◌<◌, ◌≡◌, List, [], ◌∷◌, ◌++◌, length}
use Rattle.std.proofs.Common.{sym, ap₂, ◌∙◌, append_assoc, arith, zero-add, length-append, length-drop}
use Rattle.memory_range.specs.declared.range.MemoryRange.{MemoryRange}
use Rattle.plan_fields.specs.Cut.{tab, newline}
use Rattle.plan_fields.specs.Word.{ascii}
use Rattle.host_params.specs.declared.MemoryVtlType.{MemoryVtlType}
use Rattle.host_params.specs.declared.MemoryVtlType.TheVariants.{Ram, Config, SidecarImage, SidecarNode, Reserved, GpaPool, TdxPageTables, BootshimLogBuffer, PersistedStateHeader, PersistedStatePayload}
use Rattle.plan_output.specs.Number.{hex_of, decimal_of}
use Rattle.plan_output.specs.Put.{put_at}
use Rattle.plan_output.specs.Line.{range_line, ram_line, pool_line, got_line, no_line, type_word, map_line, written}
use Rattle.plan_output.specs.Laws.Number.{hex-length, decimal-length}
use Rattle.plan_output.specs.Laws.Put.{put-put}

-- the bytes of the longest line
abbrev pub line_size : ℕ
line_size = 52

pub written-length : (line buffer : List ℕ) → length line ≤ length buffer → length (written line buffer) ≡ length buffer
written-length line buffer h = simp (length-append, length-drop) (omega arith)

-- a line is written by a put at the start
pub put-start : (line buffer : List ℕ) → put_at 0 line buffer ≡ written line buffer
put-start line buffer = rw zero-add

-- bytes put behind a line make it longer
pub put_next : (line word buffer : List ℕ) → length line + length word ≤ length buffer
    → put_at (length line) word (written line buffer) ≡ written (line ++ word) buffer
put_next line word buffer h =
    ap₂ (λ (n : ℕ) (b : List ℕ). put_at n word b) (sym (zero-add (length line))) (sym (put-start line buffer))
    ∙ put-put 0 line word buffer (omega arith) ∙ put-start (line ++ word) buffer

-- the fields of a line, each with the byte that ends it
pub range-fields : (word last : List ℕ) (r : MemoryRange)
    → range_line word r last ≡ (word ++ tab ∷ []) ++ (hex_of r.start ++ tab ∷ []) ++ (hex_of r.end ++ tab ∷ []) ++ (last ++ newline ∷ [])
unfolding range_line
range-fields word last r = simp append_assoc

pub no_fields : (k : ℕ) → no_line k ≡ (ascii "no" ++ tab ∷ []) ++ (decimal_of k ++ newline ∷ [])
unfolding no_line
no_fields k = simp append_assoc

-- a line of a word and a last field of at most 16 bytes together fits
pub range-fits : (word last : List ℕ) (r : MemoryRange) → r.start < 2 ^ 64 → r.end < 2 ^ 64 → length word + length last ≤ 16
    → length (range_line word r last) ≤ line_size
range-fits word last r s e h =
    let start = hex-length r.start 16 (omega arith) (omega arith) s in
    let end = hex-length r.end 16 (omega arith) (omega arith) e in
    rw range-fields (simp length-append (omega arith))

-- the longest word of a type has 13 letters
pub type-length : (t : MemoryVtlType) → length (type_word t) ≤ 13
type-length Ram = omega arith
type-length Config = omega arith
type-length SidecarImage = omega arith
type-length SidecarNode = omega arith
type-length Reserved = omega arith
type-length GpaPool = omega arith
type-length TdxPageTables = omega arith
type-length BootshimLogBuffer = omega arith
type-length PersistedStateHeader = omega arith
type-length PersistedStatePayload = omega arith

module _ (r : MemoryRange) (start : r.start < 2 ^ 64) (end : r.end < 2 ^ 64) where
  node-fits : (word : List ℕ) (n : ℕ) → length word ≤ 4 → n < 2 ^ 32 → length (range_line word r (hex_of n)) ≤ line_size
  node-fits word n w h = range-fits word (hex_of n) r start end (omega (arith, hex-length n 8 (omega arith) (omega arith) h))

  pub ram-fits : (n : ℕ) → n < 2 ^ 32 → length (ram_line r n) ≤ line_size
  ram-fits n h = node-fits _ n (omega arith) h

  pub pool-fits : (n : ℕ) → n < 2 ^ 32 → length (pool_line r n) ≤ line_size
  pool-fits n h = node-fits _ n (omega arith) h

  pub got-fits : (n : ℕ) → n < 2 ^ 32 → length (got_line r n) ≤ line_size
  got-fits n h = node-fits _ n (omega arith) h

  pub map-fits : (t : MemoryVtlType) → length (map_line r t) ≤ line_size
  map-fits t = range-fits _ (type_word t) r start end (omega (arith, type-length t))

pub no-fits : (k : ℕ) → length (no_line k) ≤ line_size
no-fits k = rw no_fields (simp length-append (omega (arith, decimal-length k)))
