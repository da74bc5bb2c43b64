-- Laws of the requests of a text: how many it can have, and that 64 bits hold their alignments. The line of a request is the one
-- that spells it, so its bytes can be counted.
use Rattle.std.specs.Prelude.{ℕ, ◌+◌, ◌*◌, ◌≤◌, ◌≡◌, refl, List, [], ◌∷◌, length, drop, Option, Some, None}
use Rattle.std.proofs.Common.{sym, ◌∙◌, arith, length-append}
use Rattle.memory_range.specs.Bytes.{All}
use Rattle.memory_claims.specs.Claim.{Of64Bits}
use Rattle.plan_fields.specs.Cut.{tab, newline, join_with}
use Rattle.plan_fields.specs.Number.{number_of}
use Rattle.plan_fields.specs.Word.{ascii}
use Rattle.plan_record.specs.declared.record.Get.{Get}
use Rattle.plan_record.specs.declared.record.Record.{Record}
use Rattle.plan_record.specs.declared.record.Record.TheVariants as record_of
use Rattle.plan_record.specs.Value.{policy_of, kind_of, optional_of, optional_node_of}
use Rattle.plan_output.specs.Number.{hex_of}
use Rattle.plan_output.specs.Laws.Number.{read-hex}
use Rattle.plan_text.specs.Plan.{gets}
use Rattle.plan_text.specs.Text.{records_of}
use Rattle.plan_text.specs.Spelling.{text_for}
use Rattle.plan_text.specs.Laws.Spelling.{text_spelled}
use Rattle.line_claims.specs.Spelling.{policy_word, kind_word, optional_for, optional_node_for, fields_for, line_for, SizedOption, Sized}
use Rattle.line_claims.proofs.Laws.Field.{policy-read, kind-read, optional-read, optional-node-read}
use Rattle.plan.specs.Planner.{shortest_get}
use Rattle.std.proofs.lemmas.Option.{none-some}

-- a field that is read has a byte
filled : {A : Type 0} (read : List ℕ → Option A) (f : List ℕ) {x : A} → read [] ≡ None → read f ≡ Some x → 1 ≤ length f
filled read [] {x} n e = absurd (none-some x (sym n ∙ e))
filled read (b ∷ bs) n e = omega arith

-- a word and fields that each have a byte have, with the byte between each two, at least two bytes more for each field
joined_length : (c : ℕ) (w : List ℕ) (fs : List (List ℕ)) → All (λ f. 1 ≤ length f) fs → length w + 2 * length fs ≤ length (join_with c (w ∷ fs))
joined_length c w [] h = omega arith
joined_length c w (f ∷ fs) h = omega (arith, length-append w (c ∷ join_with c (f ∷ fs)), joined_length c f fs h.1, h.0)

-- the line of a request has at least 13 bytes: three of its word, and two of each of its five fields with the tab in front
pub get_line : (g : Get) → Sized (record_of.Get g) → 13 ≤ length (line_for (record_of.Get g))
get_line g h =
    joined_length tab (ascii "get") (drop 1 (fields_for (record_of.Get g))) (
      filled optional_node_of (optional_node_for g.required_vnode) refl (optional-node-read g.required_vnode h.0),
      (
        filled number_of (hex_of g.len) refl (read-hex g.len h.1),
        (
          filled policy_of (policy_word g.allocation_policy) refl (policy-read g.allocation_policy),
          (
            filled kind_of (kind_word g.allocation_type) refl (kind-read g.allocation_type),
            (filled optional_of (optional_for g.alignment) refl (optional-read g.alignment h.2), tt),
          ),
        ),
      ),
    )

of_bits : (a : Option ℕ) → SizedOption a → Of64Bits a
of_bits (Some n) h = h
of_bits None h = tt

-- of requests that a text of so many bytes has: each takes the bytes of the shortest, and has an alignment of 64 bits
abbrev Read : List Get → ℕ → Type 0
Read gs bytes = (shortest_get * length gs ≤ bytes) × All (λ g. Of64Bits g.alignment) gs

-- those of a record's line and of the lines behind it
record-read : (r : Record) (rs : List Record) → Sized r → Read (gets rs) (length (text_for rs)) → Read (gets (r ∷ rs)) (length (text_for (r ∷ rs)))
record-read r rs h i = go r h (length-append (line_for r) (newline ∷ text_for rs))
  where
    go : (r : Record) → Sized r → length (text_for (r ∷ rs)) ≡ length (line_for r) + length (newline ∷ text_for rs)
        → Read (gets (r ∷ rs)) (length (text_for (r ∷ rs)))
    go (record_of.Shape x) h e = (omega (arith, e, i.0), i.1)
    go (record_of.File x) h e = (omega (arith, e, i.0), i.1)
    go (record_of.Mem x) h e = (omega (arith, e, i.0), i.1)
    go (record_of.Import x) h e = (omega (arith, e, i.0), i.1)
    go (record_of.Used x) h e = (omega (arith, e, i.0), i.1)
    go (record_of.State x) h e = (omega (arith, e, i.0), i.1)
    go (record_of.Config x) h e = (omega (arith, e, i.0), i.1)
    go (record_of.Keep x) h e = (omega (arith, e, i.0), i.1)
    go (record_of.Side x) h e = (omega (arith, e, i.0), i.1)
    go (record_of.Tables x) h e = (omega (arith, e, i.0), i.1)
    go (record_of.Log x) h e = (omega (arith, e, i.0), i.1)
    go (record_of.Gpool x) h e = (omega (arith, e, i.0), i.1)
    go (record_of.Pool x) h e = (omega (arith, e, i.0), i.1)
    go (record_of.Get g) h e = (omega (arith, e, i.0, get_line g h), (of_bits g.alignment h.2, i.1))

records-read : (rs : List Record) → All Sized rs → Read (gets rs) (length (text_for rs))
records-read [] h = (omega arith, tt)
records-read (r ∷ rs) h = record-read r rs h.0 (records-read rs h.1)

text-read : (text : List ℕ) (rs : List Record) → records_of text ≡ Some rs → Read (gets rs) (length text)
text-read text rs e = let s = text_spelled text rs e in rw s.0 (records-read rs s.1)

-- the requests of a text: there are no more of them than its bytes have room for, and 64 bits hold their alignments
pub gets_few : (text : List ℕ) (rs : List Record) → records_of text ≡ Some rs → shortest_get * length (gets rs) ≤ length text
gets_few text rs e = (text-read text rs e).0

pub gets_bits : (text : List ℕ) (rs : List Record) → records_of text ≡ Some rs → All (λ g. Of64Bits g.alignment) (gets rs)
gets_bits text rs e = (text-read text rs e).1
