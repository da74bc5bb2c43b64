-- `line::write_range_line` meets its contract: each field put makes the line at the buffer's start longer by
-- the field and the byte that ends it.
use Rattle.std.proofs.Common.{ℕ, ◌+◌, ◌^◌, ◌≤◌, ◌<◌, ◌≡◌, refl, arith, rules, List, [], ◌∷◌, ◌++◌, length, length-append}
use Rattle.memory_range.specs.declared.range.MemoryRange.{MemoryRange}
use Rattle.plan_fields.specs.Cut.{tab, newline}
use Rattle.plan_output.specs.Number.{hex_of}
use Rattle.plan_output.specs.Laws.Number.{hex-length}
use Rattle.plan_output.specs.Laws.Line.{line_size, range-fields}
use Rattle.plan_output.proofs.line.Laws.{field_put, field_room}
use Rattle.plan_output.proofs.line.write_range_line.Goals as goal

-- the line after the first put, the second and the third
abbrev one : List ℕ → List ℕ
one word = word ++ tab ∷ []

abbrev two : List ℕ → MemoryRange → List ℕ
two word r = one word ++ (hex_of r.start ++ tab ∷ [])

abbrev three : List ℕ → MemoryRange → List ℕ
three word r = two word r ++ (hex_of r.end ++ tab ∷ [])

-- each field and its end have room behind the line so far
room : (word last buffer : List ℕ) (r : MemoryRange) → r.start < 2 ^ 64 → r.end < 2 ^ 64 → length word + length last ≤ 16
    → length buffer ≡ line_size → let n = length buffer in
    (length word + 1 ≤ n)
    × (length (one word) + length (hex_of r.start) + 1 ≤ n)
    × (length (two word r) + length (hex_of r.end) + 1 ≤ n)
    × (length (three word r) + length last + 1 ≤ n)
room word last buffer r low high short size =
    let start = hex-length r.start 16 (omega arith) (omega arith) (omega arith) in
    let end = hex-length r.end 16 (omega arith) (omega arith) (omega arith) in
    (omega arith, simp length-append (omega arith), simp length-append (omega arith), simp length-append (omega arith))

pub put_number_field-end_at-requires : goal.put_number_field-end_at-requires
put_number_field-end_at-requires c =
    let a = c.args in
    let b = a.buffer.now in
    let w = a.word.now in
    let m = room w a.last.now b a.range (search rules) (search rules) c.requires (search rules) in
    let p = c.put_field-start_at in
    let first = field_put [] w b b _ tab 0 _ (refl, refl) (omega arith) p.ensures.value p.ensures.buffer_after in
    field_room (one w) (hex_of a.range.start) b _ _ first m.1

pub put_number_field-last_at-requires : goal.put_number_field-last_at-requires
put_number_field-last_at-requires c =
    let a = c.args in
    let b = a.buffer.now in
    let w = a.word.now in
    let m = room w a.last.now b a.range (search rules) (search rules) c.requires (search rules) in
    let p = c.put_field-start_at in
    let first = field_put [] w b b _ tab 0 _ (refl, refl) (omega arith) p.ensures.value p.ensures.buffer_after in
    let q = c.put_number_field-end_at in
    let second = field_put (one w) (hex_of a.range.start) b _ _ tab _ _ first m.1 q.ensures.value q.ensures.buffer_after in
    field_room (two w a.range) (hex_of a.range.end) b _ _ second m.2

pub put_field-requires : goal.put_field-requires
put_field-requires c =
    let a = c.args in
    let b = a.buffer.now in
    let w = a.word.now in
    let m = room w a.last.now b a.range (search rules) (search rules) c.requires (search rules) in
    let p = c.put_field-start_at in
    let first = field_put [] w b b _ tab 0 _ (refl, refl) (omega arith) p.ensures.value p.ensures.buffer_after in
    let q = c.put_number_field-end_at in
    let second = field_put (one w) (hex_of a.range.start) b _ _ tab _ _ first m.1 q.ensures.value q.ensures.buffer_after in
    let s = c.put_number_field-last_at in
    let third = field_put (two w a.range) (hex_of a.range.end) b _ _ tab _ _ second m.2 s.ensures.value s.ensures.buffer_after in
    field_room (three w a.range) a.last.now b _ _ third m.3

pub returns : goal.returns
returns c =
    let a = c.args in
    let b = a.buffer.now in
    let w = a.word.now in
    let m = room w a.last.now b a.range (search rules) (search rules) c.requires (search rules) in
    let p = c.put_field-start_at in
    let first = field_put [] w b b _ tab 0 _ (refl, refl) (omega arith) p.ensures.value p.ensures.buffer_after in
    let q = c.put_number_field-end_at in
    let second = field_put (one w) (hex_of a.range.start) b _ _ tab _ _ first m.1 q.ensures.value q.ensures.buffer_after in
    let s = c.put_number_field-last_at in
    let third = field_put (two w a.range) (hex_of a.range.end) b _ _ tab _ _ second m.2 s.ensures.value s.ensures.buffer_after in
    let e = c.put_field.ensures in
    let whole = field_put (three w a.range) a.last.now b _ _ newline _ _ third m.3 e.value e.buffer_after in
    rw (range-fields w a.last.now a.range)
    record {
      value = whole.0;
      buffer_after = whole.1;
    }
