-- The line of a record is the one that spells it: what is read from it is the record, and no other line is read as it.
use Rattle.std.specs.Prelude.{ℕ, ◌≡◌, refl, Bool, true, false, cond, List, [], ◌∷◌, eqb, length, Option, Some, None}
use Rattle.std.proofs.Common.{ap, ap₂, sym, ◌∙◌, arith, eqb-true}
use Rattle.memory_range.specs.Bytes.{All}
use Rattle.memory_range.specs.declared.range.MemoryRange.{MemoryRange}
use Rattle.plan_fields.specs.Cut.{tab, split_on, join_with}
use Rattle.plan_fields.specs.Laws.Cut.{join_split, split_join, AllWithout}
use Rattle.plan_fields.specs.Laws.Word.{same_eq, after-some}
use Rattle.plan_fields.specs.Number.{number_of}
use Rattle.plan_fields.specs.Word.{ascii, same_bytes, after}
use Rattle.plan_record.specs.declared.record.Record.{Record}
use Rattle.plan_record.specs.declared.record.Record.TheVariants.{Shape, File, Mem, Import, Used, State, Config, Keep, Side, Tables, Log, Gpool, Pool, Get}
use Rattle.plan_record.specs.Record.{having, field, shape_of, mem_of, pool_of, get_of, range_of, Form, forms, word_in, makes, record_by, fields_record, line_of}
use Rattle.plan_record.specs.Value.{mode_of, isolation_of, entry_type_of, policy_of, kind_of, split_of, optional_of, node_of, optional_node_of, config_of}
use Rattle.plan_output.specs.Number.{hex_of}
use Rattle.plan_output.specs.Laws.Number.{read-hex}
use Rattle.line_claims.specs.Spelling.{fields_for, line_for, Sized, SizedRange}
use Rattle.line_claims.proofs.Laws.Plain.{fields_apart}
use Rattle.line_claims.proofs.Laws.Field.{mode-read, mode_spelled, isolation-read, isolation_spelled, entry_type-read, entry_type_spelled}
use Rattle.line_claims.proofs.Laws.Field.{policy-read, policy_spelled, kind-read, kind_spelled, split-read, split_spelled, number_spelled}
use Rattle.line_claims.proofs.Laws.Field.{optional-read, optional_spelled, node-read, node_spelled, optional-node-read, optional-node_spelled, config-read, config_spelled}
use Rattle.std.proofs.lemmas.Option.{none-some, same_Some}

-- the fields of a record are read as the record
range-read : (r : MemoryRange) → SizedRange r → range_of (hex_of r.start ∷ hex_of r.end ∷ []) ≡ Some r
range-read r h = rw (read-hex r.start h.0, read-hex r.end h.1)

fields_read : (r : Record) → Sized r → fields_record (fields_for r) ≡ Some r
fields_read (Shape s) h = rw (mode-read s.mode, isolation-read s.isolation, optional-read s.memory_size h)
fields_read (File r) h = rw (range-read r h)
fields_read (Mem e) h =
    rw (read-hex e.range.start h.0.0, read-hex e.range.end h.0.1, node-read e.vnode h.1, entry_type-read e.mem_type)
fields_read (Import r) h = rw (range-read r h)
fields_read (Used r) h = rw (range-read r h)
fields_read (State r) h = rw (range-read r h)
fields_read (Config r) h = rw (range-read r h)
fields_read (Keep r) h = rw (range-read r h)
fields_read (Side r) h = rw (range-read r h)
fields_read (Tables r) h = rw (range-read r h)
fields_read (Log r) h = rw (range-read r h)
fields_read (Gpool r) h = rw (range-read r h)
fields_read (Pool p) h =
    rw (config-read p.config h.0, optional-read p.host_pages h.1, read-hex p.processors h.2, split-read p.split)
fields_read (Get g) h =
    rw (
      optional-node-read g.required_vnode h.0,
      read-hex g.len h.1,
      policy-read g.allocation_policy,
      kind-read g.allocation_type,
      optional-read g.alignment h.2,
    )

-- a value made of n fields is made of so many
having-some : {A : Type 0} (n : ℕ) (fields : List (List ℕ)) (v : Option A) {y : A} → having n fields v ≡ Some y
    → (v ≡ Some y) × (length fields ≡ n)
having-some {A} n fields v {y} e = go (eqb (length fields) n) refl e
  where
    go : (t : Bool) → eqb (length fields) n ≡ t → cond t v None ≡ Some y → (v ≡ Some y) × (length fields ≡ n)
    go true q h = (h, eqb-true (length fields) n q)
    go false q h = absurd (none-some y h)

-- so many fields, one by one
two : (fs : List (List ℕ)) → length fs ≡ 2 → fs ≡ field 0 fs ∷ field 1 fs ∷ []
two [] h = absurd (omega arith)
two (a ∷ []) h = absurd (omega arith)
two (a ∷ b ∷ []) h = refl
two (a ∷ b ∷ c ∷ fs) h = absurd (omega arith)

three : (fs : List (List ℕ)) → length fs ≡ 3 → fs ≡ field 0 fs ∷ field 1 fs ∷ field 2 fs ∷ []
three [] h = absurd (omega arith)
three (a ∷ fs) h = ap (λ l. a ∷ l) (two fs (omega arith))

four : (fs : List (List ℕ)) → length fs ≡ 4 → fs ≡ field 0 fs ∷ field 1 fs ∷ field 2 fs ∷ field 3 fs ∷ []
four [] h = absurd (omega arith)
four (a ∷ fs) h = ap (λ l. a ∷ l) (three fs (omega arith))

five : (fs : List (List ℕ)) → length fs ≡ 5 → fs ≡ field 0 fs ∷ field 1 fs ∷ field 2 fs ∷ field 3 fs ∷ field 4 fs ∷ []
five [] h = absurd (omega arith)
five (a ∷ fs) h = ap (λ l. a ∷ l) (four fs (omega arith))

-- fields that are equal one by one
cons : {f g : List ℕ} {fs gs : List (List ℕ)} → f ≡ g → fs ≡ gs → f ∷ fs ≡ g ∷ gs
cons e h = ap₂ (λ (f : List ℕ) (fs : List (List ℕ)). f ∷ fs) e h

-- what a form makes of fields is a record that those fields spell behind the form's word
abbrev Spelled : List ℕ → List (List ℕ) → Record → Type 0
Spelled w fs r = (w ∷ fs ≡ fields_for r) × Sized r

abbrev FormSpelled : Form → Type 0
FormSpelled form = (fs : List (List ℕ)) (r : Record) → makes form fs ≡ Some r → Spelled (word_in form) fs r

range_spelled : (fs : List (List ℕ)) (r : MemoryRange) → range_of fs ≡ Some r → (fs ≡ hex_of r.start ∷ hex_of r.end ∷ []) × SizedRange r
range_spelled fs r e =
    let all = having-some 2 fs _ e in
    let a = after-some (number_of (field 0 fs)) _ all.0 in
    let b = after-some (number_of (field 1 fs)) _ a.2 in
    let start = number_spelled (field 0 fs) a.0 a.1 in
    let end = number_spelled (field 1 fs) b.0 b.1 in
    rw (← same_Some _ r b.2) (two fs all.1 ∙ cons start.0 (cons end.0 refl), (start.1, end.1))

ranged_spelled : (w : List ℕ) (make : MemoryRange → Record)
    → ((x : MemoryRange) → SizedRange x → Spelled w (hex_of x.start ∷ hex_of x.end ∷ []) (make x))
    → (fs : List (List ℕ)) (r : Record) → after (range_of fs) (λ x. Some (make x)) ≡ Some r → Spelled w fs r
ranged_spelled w make s fs r e =
    let a = after-some (range_of fs) _ e in
    let x = range_spelled fs a.0 a.1 in
    let made = s a.0 x.1 in
    rw (← same_Some _ r a.2) (cons refl x.0 ∙ made.0, made.1)

shape_spelled : (fs : List (List ℕ)) (r : Record) → shape_of fs ≡ Some r → Spelled (ascii "shape") fs r
shape_spelled fs r e =
    let all = having-some 3 fs _ e in
    let a = after-some (mode_of (field 0 fs)) _ all.0 in
    let b = after-some (isolation_of (field 1 fs)) _ a.2 in
    let c = after-some (optional_of (field 2 fs)) _ b.2 in
    let size = optional_spelled (field 2 fs) c.0 c.1 in
    rw (← same_Some _ r c.2) (
      cons refl (three fs all.1
          ∙ cons (mode_spelled (field 0 fs) a.0 a.1) (cons (isolation_spelled (field 1 fs) b.0 b.1) (cons size.0 refl))),
      size.1,
    )

mem_spelled : (fs : List (List ℕ)) (r : Record) → mem_of fs ≡ Some r → Spelled (ascii "mem") fs r
mem_spelled fs r e =
    let all = having-some 4 fs _ e in
    let a = after-some (number_of (field 0 fs)) _ all.0 in
    let b = after-some (number_of (field 1 fs)) _ a.2 in
    let c = after-some (node_of (field 2 fs)) _ b.2 in
    let d = after-some (entry_type_of (field 3 fs)) _ c.2 in
    let start = number_spelled (field 0 fs) a.0 a.1 in
    let end = number_spelled (field 1 fs) b.0 b.1 in
    let node = node_spelled (field 2 fs) c.0 c.1 in
    rw (← same_Some _ r d.2) (
      cons refl (four fs all.1
          ∙ cons start.0 (cons end.0 (cons node.0 (cons (entry_type_spelled (field 3 fs) d.0 d.1) refl)))),
      ((start.1, end.1), node.1),
    )

pool_spelled : (fs : List (List ℕ)) (r : Record) → pool_of fs ≡ Some r → Spelled (ascii "pool") fs r
pool_spelled fs r e =
    let all = having-some 5 fs _ e in
    let a = after-some (config_of (field 0 fs) (field 1 fs)) _ all.0 in
    let b = after-some (optional_of (field 2 fs)) _ a.2 in
    let c = after-some (number_of (field 3 fs)) _ b.2 in
    let d = after-some (split_of (field 4 fs)) _ c.2 in
    let config = config_spelled (field 0 fs) (field 1 fs) a.0 a.1 in
    let host = optional_spelled (field 2 fs) b.0 b.1 in
    let processors = number_spelled (field 3 fs) c.0 c.1 in
    rw (← same_Some _ r d.2) (
      cons refl (five fs all.1
          ∙ cons config.0 (cons config.1 (cons host.0 (cons processors.0 (cons (split_spelled (field 4 fs) d.0 d.1) refl))))),
      (config.2, host.1, processors.1),
    )

get_spelled : (fs : List (List ℕ)) (r : Record) → get_of fs ≡ Some r → Spelled (ascii "get") fs r
get_spelled fs r e =
    let all = having-some 5 fs _ e in
    let a = after-some (optional_node_of (field 0 fs)) _ all.0 in
    let b = after-some (number_of (field 1 fs)) _ a.2 in
    let c = after-some (policy_of (field 2 fs)) _ b.2 in
    let d = after-some (kind_of (field 3 fs)) _ c.2 in
    let l = after-some (optional_of (field 4 fs)) _ d.2 in
    let node = optional-node_spelled (field 0 fs) a.0 a.1 in
    let len = number_spelled (field 1 fs) b.0 b.1 in
    let align = optional_spelled (field 4 fs) l.0 l.1 in
    rw (← same_Some _ r l.2) (
      cons refl (five fs all.1
          ∙ cons node.0 (cons len.0 (cons (policy_spelled (field 2 fs) c.0 c.1) (cons (kind_spelled (field 3 fs) d.0 d.1) (cons align.0 refl))))),
      (node.1, len.1, align.1),
    )

forms_spelled : All FormSpelled forms
forms_spelled = (
  shape_spelled,
  (
    ranged_spelled _ File (λ x h. (refl, h)),
    (
      mem_spelled,
      (
        ranged_spelled _ Import (λ x h. (refl, h)),
        (
          ranged_spelled _ Used (λ x h. (refl, h)),
          (
            ranged_spelled _ State (λ x h. (refl, h)),
            (
              ranged_spelled _ Config (λ x h. (refl, h)),
              (
                ranged_spelled _ Keep (λ x h. (refl, h)),
                (
                  ranged_spelled _ Side (λ x h. (refl, h)),
                  (
                    ranged_spelled _ Tables (λ x h. (refl, h)),
                    (
                      ranged_spelled _ Log (λ x h. (refl, h)),
                      (
                        ranged_spelled _ Gpool (λ x h. (refl, h)),
                        (pool_spelled, (get_spelled, tt)),
                      ),
                    ),
                  ),
                ),
              ),
            ),
          ),
        ),
      ),
    ),
  ),
)

record_spelled : (l : List Form) (w : List ℕ) (fs : List (List ℕ)) (r : Record) → All FormSpelled l → record_by l w fs ≡ Some r → Spelled w fs r
record_spelled [] w fs r m e = absurd (none-some r e)
record_spelled (form ∷ rest) w fs r m e = go (same_bytes w (word_in form)) refl e (record_spelled rest w fs r m.1)
  where
    go : (t : Bool) → same_bytes w (word_in form) ≡ t → cond t (makes form fs) (record_by rest w fs) ≡ Some r
        → (record_by rest w fs ≡ Some r → Spelled w fs r) → Spelled w fs r
    go true q h i = rw (same_eq w (word_in form) q) (m.0 fs r h)
    go false q h i = i h

fields_spelled : (ps : List (List ℕ)) (r : Record) → fields_record ps ≡ Some r → (ps ≡ fields_for r) × Sized r
fields_spelled [] r e = absurd (none-some r e)
fields_spelled (w ∷ fs) r e = record_spelled forms w fs r forms_spelled e

-- a line that is read as a record is the record's
pub line_spelled : (line : List ℕ) (r : Record) → line_of line ≡ Some r → (line ≡ line_for r) × Sized r
line_spelled line r e =
    let s = fields_spelled (split_on tab line) r e in
    (sym (join_split tab line) ∙ ap (join_with tab) s.0, s.1)

-- and that line is read as the record
split_fields : (fs : List (List ℕ)) (r : Record) → AllWithout tab fs → fields_record fs ≡ Some r → line_of (join_with tab fs) ≡ Some r
split_fields [] r a e = absurd (none-some r e)
split_fields (w ∷ fs) r a e = ap fields_record (split_join tab w fs a) ∙ e

pub line_read : (r : Record) → Sized r → line_of (line_for r) ≡ Some r
line_read r h = split_fields (fields_for r) r (fields_apart r h) (fields_read r h)
