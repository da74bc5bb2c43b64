-- No field of a record's line holds a tab or a newline.
use Rattle.std.specs.Prelude.{ℕ, ◌+◌, ◌*◌, ◌^◌, ◌<◌, ◌≡◌, refl, Bool, true, false, cond, ◌&&◌, not, List, [], ◌∷◌, ◌++◌, eqb, length, Option, Some, None}
use Rattle.std.proofs.Common.{ap, sym, ◌∙◌, arith, eqb-true}
use Rattle.std.proofs.Math.Bool.{and-eq-true_iff}
use Rattle.std.proofs.lemmas.Bool.{not-true}
use Rattle.memory_range.specs.Bytes.{All}
use Rattle.memory_range.specs.declared.range.MemoryRange.{MemoryRange}
use Rattle.host_params.specs.declared.AllocationPolicy.{AllocationPolicy}
use Rattle.host_params.specs.declared.AllocationPolicy.TheVariants.{LowMemory, HighMemory}
use Rattle.host_params.specs.declared.AllocationType.{AllocationType}
use Rattle.host_params.specs.declared.AllocationType.TheVariants.{GpaPool, SidecarNode, TdxPageTables}
use Rattle.host_params.specs.declared.IsolationType.{IsolationType}
use Rattle.host_params.specs.declared.IsolationType.TheVariants.{Vbs, Snp, Tdx, Cca}
use Rattle.host_params.specs.declared.IsolationType.TheVariants as isolation
use Rattle.host_params.specs.declared.MemoryAllocationMode.{MemoryAllocationMode}
use Rattle.host_params.specs.declared.MemoryAllocationMode.TheVariants.{Host, Vtl2}
use Rattle.host_params.specs.declared.MemoryMapEntryType.{MemoryMapEntryType}
use Rattle.host_params.specs.declared.MemoryMapEntryType.TheVariants.{Vtl2Protectable, Memory}
use Rattle.host_params.specs.declared.Vtl2GpaPoolConfig.{Vtl2GpaPoolConfig}
use Rattle.host_params.specs.declared.Vtl2GpaPoolConfig.TheVariants.{Heuristics, Off, Pages}
use Rattle.host_params.specs.declared.Vtl2GpaPoolLookupTable.TheVariants.{Release, Debug}
use Rattle.plan_fields.specs.Cut.{tab, newline, join_with}
use Rattle.plan_fields.specs.Laws.Cut.{Without, AllWithout}
use Rattle.plan_fields.specs.Laws.Number.{spelled_digit, spelled_none}
use Rattle.plan_fields.specs.Number.{between, digit_of, spelled_from, zero_in_front, number_of}
use Rattle.plan_record.specs.declared.record.Record.{Record}
use Rattle.plan_record.specs.declared.record.Record.TheVariants.{Shape, File, Mem, Import, Used, State, Config, Keep, Side, Tables, Log, Gpool, Pool, Get}
use Rattle.plan_output.specs.Number.{hex_of}
use Rattle.plan_output.specs.Laws.Number.{read-hex}
use Rattle.line_claims.specs.Spelling.{mode_word, isolation_word, entry_type_word, policy_word, kind_word, split_word, config_word, pages_for, optional_for, optional_node_for, fields_for, line_for}
use Rattle.line_claims.specs.Spelling.{SizedOption, SizedNode, SizedConfig, SizedRange, Sized}
use Rattle.std.proofs.lemmas.Option.{none-some}

record Plain (f : List ℕ) : Type 0 where
  no-tab : Without tab f
  no-newline : Without newline f

-- of a word it is a computed test
abbrev without : ℕ → List ℕ → Bool
without c [] = true
without c (b ∷ bs) = not (eqb b c) && without c bs

without-test : (c : ℕ) (bs : List ℕ) → without c bs ≡ true → Without c bs
without-test c [] h = tt
without-test c (b ∷ bs) h =
    let both = (and-eq-true_iff (not (eqb b c)) (without c bs)).0 h in
    (not-true (eqb b c) both.0, without-test c bs both.1)

word_plain : (w : List ℕ) → (without tab w && without newline w) ≡ true → Plain w
word_plain w h =
    let both = (and-eq-true_iff (without tab w) (without newline w)).0 h in
    record { no-tab = without-test tab w both.0; no-newline = without-test newline w both.1 }

-- of a number: a byte that is no digit is in no number
spelled-without : (c : ℕ) → digit_of c ≡ None → (bs : List ℕ) (v n : ℕ) → spelled_from v bs ≡ Some n → Without c bs
spelled-without c z [] v n e = tt
spelled-without c z (b ∷ bs) v n e = go (digit_of b) (eqb b c) refl refl (λ w. spelled-without c z bs w n)
  where
    go : (o : Option ℕ) (t : Bool) → digit_of b ≡ o → eqb b c ≡ t → ((w : ℕ) → spelled_from w bs ≡ Some n → Without c bs) → Without c (b ∷ bs)
    go None t d q i = absurd (none-some n (sym (spelled_none v b bs d) ∙ e))
    go (Some d) true s q i = absurd (none-some d (sym z ∙ ap digit_of (sym (eqb-true b c q)) ∙ s))
    go (Some d) false s q i = (q, i (v * 16 + d) (sym (spelled_digit v b d bs s) ∙ e))

number-without : (c : ℕ) → digit_of c ≡ None → (bs : List ℕ) (n : ℕ) → number_of bs ≡ Some n → Without c bs
number-without c z bs n e = go (between 1 16 (length bs) && not (zero_in_front bs)) e
  where
    go : (t : Bool) → cond t (spelled_from 0 bs) None ≡ Some n → Without c bs
    go true h = spelled-without c z bs 0 n h
    go false h = absurd (none-some n h)

hex_plain : (n : ℕ) → n < 2 ^ 64 → Plain (hex_of n)
hex_plain n h = record {
  no-tab = number-without tab refl (hex_of n) n (read-hex n h);
  no-newline = number-without newline refl (hex_of n) n (read-hex n h);
}

mode_plain : (v : MemoryAllocationMode) → Plain (mode_word v)
mode_plain Host = word_plain _ refl
mode_plain Vtl2 = word_plain _ refl

isolation_plain : (v : IsolationType) → Plain (isolation_word v)
isolation_plain isolation.None = word_plain _ refl
isolation_plain Vbs = word_plain _ refl
isolation_plain Snp = word_plain _ refl
isolation_plain Tdx = word_plain _ refl
isolation_plain Cca = word_plain _ refl

entry_type_plain : (v : MemoryMapEntryType) → Plain (entry_type_word v)
entry_type_plain Vtl2Protectable = word_plain _ refl
entry_type_plain Memory = word_plain _ refl

policy_plain : (v : AllocationPolicy) → Plain (policy_word v)
policy_plain LowMemory = word_plain _ refl
policy_plain HighMemory = word_plain _ refl

kind_plain : (v : AllocationType) → Plain (kind_word v)
kind_plain GpaPool = word_plain _ refl
kind_plain SidecarNode = word_plain _ refl
kind_plain TdxPageTables = word_plain _ refl

split_plain : (v : Bool) → Plain (split_word v)
split_plain true = word_plain _ refl
split_plain false = word_plain _ refl

optional_plain : (v : (Option ℕ)) → SizedOption v → Plain (optional_for v)
optional_plain (Some n) h = hex_plain n h
optional_plain None h = word_plain _ refl

optional-node_plain : (v : (Option ℕ)) → SizedNode v → Plain (optional_node_for v)
optional-node_plain (Some n) h = hex_plain n (omega arith)
optional-node_plain None h = word_plain _ refl

pool_plain : (v : Vtl2GpaPoolConfig) → Plain (config_word v)
pool_plain (Heuristics Release) = word_plain _ refl
pool_plain (Heuristics Debug) = word_plain _ refl
pool_plain Off = word_plain _ refl
pool_plain (Pages n) = word_plain _ refl

pages_plain : (v : Vtl2GpaPoolConfig) → SizedConfig v → Plain (pages_for v)
pages_plain (Heuristics table) h = word_plain _ refl
pages_plain Off h = word_plain _ refl
pages_plain (Pages n) h = hex_plain n h

range_plain : (w : List ℕ) (r : MemoryRange) → Plain w → SizedRange r → All Plain (w ∷ hex_of r.start ∷ hex_of r.end ∷ [])
range_plain w r p h = (p, (hex_plain r.start h.0, (hex_plain r.end h.1, tt)))

fields_plain : (r : Record) → Sized r → All Plain (fields_for r)
fields_plain (Shape s) h = (word_plain _ refl, (mode_plain s.mode, (isolation_plain s.isolation, (optional_plain s.memory_size h, tt))))
fields_plain (File r) h = range_plain _ r (word_plain _ refl) h
fields_plain (Mem e) h = (
  word_plain _ refl,
  (
    hex_plain e.range.start h.0.0,
    (
      hex_plain e.range.end h.0.1,
      (
        hex_plain e.vnode (omega (arith, h.1)),
        (entry_type_plain e.mem_type, tt),
      ),
    ),
  ),
)
fields_plain (Import r) h = range_plain _ r (word_plain _ refl) h
fields_plain (Used r) h = range_plain _ r (word_plain _ refl) h
fields_plain (State r) h = range_plain _ r (word_plain _ refl) h
fields_plain (Config r) h = range_plain _ r (word_plain _ refl) h
fields_plain (Keep r) h = range_plain _ r (word_plain _ refl) h
fields_plain (Side r) h = range_plain _ r (word_plain _ refl) h
fields_plain (Tables r) h = range_plain _ r (word_plain _ refl) h
fields_plain (Log r) h = range_plain _ r (word_plain _ refl) h
fields_plain (Gpool r) h = range_plain _ r (word_plain _ refl) h
fields_plain (Pool p) h = (
  word_plain _ refl,
  (
    pool_plain p.config,
    (
      pages_plain p.config h.0,
      (
        optional_plain p.host_pages h.1,
        (hex_plain p.processors h.2, (split_plain p.split, tt)),
      ),
    ),
  ),
)
fields_plain (Get g) h = (
  word_plain _ refl,
  (
    optional-node_plain g.required_vnode h.0,
    (
      hex_plain g.len h.1,
      (
        policy_plain g.allocation_policy,
        (kind_plain g.allocation_type, (optional_plain g.alignment h.2, tt)),
      ),
    ),
  ),
)

-- so they can be cut apart again, and so can their lines
all_without : (fs : List (List ℕ)) → All Plain fs → AllWithout tab fs
all_without [] h = tt
all_without (f ∷ fs) h = (h.0.no-tab, all_without fs h.1)

pub fields_apart : (r : Record) → Sized r → AllWithout tab (fields_for r)
fields_apart r h = all_without (fields_for r) (fields_plain r h)

append-without : (c : ℕ) (a b : List ℕ) → Without c a → Without c b → Without c (a ++ b)
append-without c [] b h k = k
append-without c (x ∷ a) b h k = (h.0, append-without c a b h.1 k)

join-without : (fs : List (List ℕ)) → All Plain fs → Without newline (join_with tab fs)
join-without [] h = tt
join-without (f ∷ []) h = h.0.no-newline
join-without (f ∷ g ∷ fs) h = append-without newline f (tab ∷ join_with tab (g ∷ fs)) h.0.no-newline (refl, join-without (g ∷ fs) h.1)

pub line-without : (r : Record) → Sized r → Without newline (line_for r)
line-without r h = join-without (fields_for r) (fields_plain r h)
