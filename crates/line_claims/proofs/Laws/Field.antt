-- What a field stands for is spelled by that field, and by no other; and no spelling holds a tab or a newline.
use Rattle.std.specs.Prelude.{ℕ, ◌^◌, ◌<◌, ◌≡◌, refl, Bool, true, false, cond, List, [], ◌∷◌, leb, Option, Some, None}
use Prim.Native.String.{String}
use Rattle.std.proofs.Common.{ap, sym, ◌∙◌, arith, leb-true, le-leb}
use Rattle.memory_range.specs.Bytes.{All}
use Rattle.host_params.specs.declared.AllocationPolicy.{AllocationPolicy}
use Rattle.host_params.specs.declared.AllocationPolicy.TheVariants.{LowMemory, HighMemory}
use Rattle.host_params.specs.declared.AllocationType.{AllocationType}
use Rattle.host_params.specs.declared.AllocationType.TheVariants.{GpaPool, SidecarNode, TdxPageTables}
use Rattle.host_params.specs.declared.IsolationType.{IsolationType}
use Rattle.host_params.specs.declared.IsolationType.TheVariants.{Vbs, Snp, Tdx, Cca}
use Rattle.host_params.specs.declared.IsolationType.TheVariants as isolation
use Rattle.host_params.specs.declared.MemoryAllocationMode.{MemoryAllocationMode}
use Rattle.host_params.specs.declared.MemoryAllocationMode.TheVariants.{Host, Vtl2}
use Rattle.host_params.specs.declared.MemoryMapEntryType.{MemoryMapEntryType}
use Rattle.host_params.specs.declared.MemoryMapEntryType.TheVariants.{Vtl2Protectable, Memory}
use Rattle.host_params.specs.declared.Vtl2GpaPoolConfig.{Vtl2GpaPoolConfig}
use Rattle.host_params.specs.declared.Vtl2GpaPoolConfig.TheVariants.{Heuristics, Off, Pages}
use Rattle.host_params.specs.declared.Vtl2GpaPoolLookupTable.TheVariants.{Release, Debug}
use Rattle.plan_fields.specs.Word.{ascii, same_bytes, after, lookup}
use Rattle.plan_fields.specs.Number.{number_of}
use Rattle.plan_fields.specs.Laws.Number.{number_bound}
use Rattle.plan_fields.specs.Laws.Word.{same_eq, after-some}
use Rattle.plan_record.specs.Value.{modes, mode_of, isolations, isolation_of, entry_types, entry_type_of, policies, policy_of, kinds, kind_of, splits, split_of, absent, optional_of, node_from, node_of, optional_node_of, kinds_without_pages, kind_without_pages, config_of}
use Rattle.plan_output.specs.Number.{hex_of}
use Rattle.plan_output.specs.Laws.Number.{read-hex, hex-read}
use Rattle.line_claims.specs.Spelling.{mode_word, isolation_word, entry_type_word, policy_word, kind_word, split_word, config_word, pages_for, optional_for, optional_node_for, SizedOption, SizedNode, SizedConfig}
use Rattle.std.proofs.lemmas.Option.{none-some, same_Some}

-- what holds of a field that is the word of a row and of the row's value, for every row, holds of what is looked up
looked_up : {A : Type 0} (P : List ℕ → A → Type 0) (rows : List (String × A)) (f : List ℕ) (v : A) → lookup rows f ≡ Some v
    → All (λ row. P (ascii row.0) row.1) rows → P f v
looked_up P [] f v e h = absurd (none-some v e)
looked_up {A} P (row ∷ rows) f v e h = go (same_bytes f (ascii row.0)) refl e (λ k. looked_up P rows f v k h.1)
  where
    go : (t : Bool) → same_bytes f (ascii row.0) ≡ t → cond t (Some row.1) (lookup rows f) ≡ Some v → (lookup rows f ≡ Some v → P f v) → P f v
    go true q k i = rw (same_eq f (ascii row.0) q, ← same_Some row.1 v k) h.0
    go false q k i = i k

-- words: read, spelled
pub mode-read : (v : MemoryAllocationMode) → mode_of (mode_word v) ≡ Some v
mode-read Host = refl
mode-read Vtl2 = refl

pub mode_spelled : (f : List ℕ) (v : MemoryAllocationMode) → mode_of f ≡ Some v → f ≡ mode_word v
mode_spelled f v e = looked_up (λ f v. f ≡ mode_word v) modes f v e (refl, (refl, tt))

pub isolation-read : (v : IsolationType) → isolation_of (isolation_word v) ≡ Some v
isolation-read isolation.None = refl
isolation-read Vbs = refl
isolation-read Snp = refl
isolation-read Tdx = refl
isolation-read Cca = refl

pub isolation_spelled : (f : List ℕ) (v : IsolationType) → isolation_of f ≡ Some v → f ≡ isolation_word v
isolation_spelled f v e = looked_up (λ f v. f ≡ isolation_word v) isolations f v e (refl, (refl, (refl, (refl, (refl, tt)))))

pub entry_type-read : (v : MemoryMapEntryType) → entry_type_of (entry_type_word v) ≡ Some v
entry_type-read Vtl2Protectable = refl
entry_type-read Memory = refl

pub entry_type_spelled : (f : List ℕ) (v : MemoryMapEntryType) → entry_type_of f ≡ Some v → f ≡ entry_type_word v
entry_type_spelled f v e = looked_up (λ f v. f ≡ entry_type_word v) entry_types f v e (refl, (refl, tt))

pub policy-read : (v : AllocationPolicy) → policy_of (policy_word v) ≡ Some v
policy-read LowMemory = refl
policy-read HighMemory = refl

pub policy_spelled : (f : List ℕ) (v : AllocationPolicy) → policy_of f ≡ Some v → f ≡ policy_word v
policy_spelled f v e = looked_up (λ f v. f ≡ policy_word v) policies f v e (refl, (refl, tt))

pub kind-read : (v : AllocationType) → kind_of (kind_word v) ≡ Some v
kind-read GpaPool = refl
kind-read SidecarNode = refl
kind-read TdxPageTables = refl

pub kind_spelled : (f : List ℕ) (v : AllocationType) → kind_of f ≡ Some v → f ≡ kind_word v
kind_spelled f v e = looked_up (λ f v. f ≡ kind_word v) kinds f v e (refl, (refl, (refl, tt)))

pub split-read : (v : Bool) → split_of (split_word v) ≡ Some v
split-read true = refl
split-read false = refl

pub split_spelled : (f : List ℕ) (v : Bool) → split_of f ≡ Some v → f ≡ split_word v
split_spelled f v e = looked_up (λ f v. f ≡ split_word v) splits f v e (refl, (refl, tt))

-- numbers
pub number_spelled : (f : List ℕ) (n : ℕ) → number_of f ≡ Some n → (f ≡ hex_of n) × (n < 2 ^ 64)
number_spelled f n e = (sym (hex-read f n e), number_bound f n e)

-- a number is not spelled as an absent one is
hex-absent : (n : ℕ) → n < 2 ^ 64 → same_bytes (hex_of n) absent ≡ false
hex-absent n h = go (same_bytes (hex_of n) absent) refl
  where
    go : (t : Bool) → same_bytes (hex_of n) absent ≡ t → same_bytes (hex_of n) absent ≡ false
    go true e = absurd (none-some n (ap number_of (sym (same_eq (hex_of n) absent e)) ∙ read-hex n h))
    go false e = e

pub optional-read : (v : (Option ℕ)) → SizedOption v → optional_of (optional_for v) ≡ Some v
optional-read (Some n) h = rw (hex-absent n h, read-hex n h)
optional-read None h = refl

pub optional_spelled : (f : List ℕ) (v : (Option ℕ)) → optional_of f ≡ Some v → (f ≡ optional_for v) × SizedOption v
optional_spelled f v e = go (same_bytes f absent) (number_of f) refl refl e
  where
    go : (t : Bool) (o : Option ℕ) → same_bytes f absent ≡ t → number_of f ≡ o
        → cond t (Some None) (after o (λ n. Some (Some n))) ≡ Some v → (f ≡ optional_for v) × SizedOption v
    go true o q p h = rw (← same_Some _ v h) (same_eq f absent q, tt)
    go false None q p h = absurd (none-some v h)
    go false (Some n) q p h = rw (← same_Some _ v h) (number_spelled f n p)

node-from : (n v : ℕ) → node_from n ≡ Some v → (n ≡ v) × (v < 2 ^ 32)
node-from n v e = go (leb n 4294967295) refl e
  where
    go : (t : Bool) → leb n 4294967295 ≡ t → cond t (Some n) None ≡ Some v → (n ≡ v) × (v < 2 ^ 32)
    go true q h = let same = same_Some n v h in (same, omega (arith, same, leb-true n 4294967295 q))
    go false q h = absurd (none-some v h)

pub node-read : (n : ℕ) → n < 2 ^ 32 → node_of (hex_of n) ≡ Some n
node-read n h = rw (read-hex n (omega arith), le-leb n 4294967295 (omega arith))

pub node_spelled : (f : List ℕ) (v : ℕ) → node_of f ≡ Some v → (f ≡ hex_of v) × (v < 2 ^ 32)
node_spelled f v e =
    let n = after-some (number_of f) node_from e in
    let small = node-from n.0 v n.2 in
    ((number_spelled f n.0 n.1).0 ∙ ap hex_of small.0, small.1)

pub optional-node-read : (v : (Option ℕ)) → SizedNode v → optional_node_of (optional_node_for v) ≡ Some v
optional-node-read (Some n) h = rw (hex-absent n (omega arith), node-read n h)
optional-node-read None h = refl

pub optional-node_spelled : (f : List ℕ) (v : (Option ℕ)) → optional_node_of f ≡ Some v → (f ≡ optional_node_for v) × SizedNode v
optional-node_spelled f v e = go (same_bytes f absent) (node_of f) refl refl e
  where
    go : (t : Bool) (o : Option ℕ) → same_bytes f absent ≡ t → node_of f ≡ o
        → cond t (Some None) (after o (λ n. Some (Some n))) ≡ Some v → (f ≡ optional_node_for v) × SizedNode v
    go true o q p h = rw (← same_Some _ v h) (same_eq f absent q, tt)
    go false None q p h = absurd (none-some v h)
    go false (Some n) q p h = rw (← same_Some _ v h) (node_spelled f n p)

-- the kind of a pool and its pages
pub config-read : (v : Vtl2GpaPoolConfig) → SizedConfig v → config_of (config_word v) (pages_for v) ≡ Some v
config-read (Heuristics Release) h = refl
config-read (Heuristics Debug) h = refl
config-read Off h = refl
config-read (Pages n) h = rw (read-hex n h)

-- the kinds that have no pages
without-pages : (f : List ℕ) (v : Vtl2GpaPoolConfig) → kind_without_pages f ≡ Some v → (f ≡ config_word v) × (pages_for v ≡ absent) × SizedConfig v
without-pages f v e =
    looked_up (λ f v. (f ≡ config_word v) × (pages_for v ≡ absent) × SizedConfig v) kinds_without_pages f v e ((refl, refl, tt), ((refl, refl, tt), ((refl, refl, tt), tt)))

pub config_spelled : (k p : List ℕ) (v : Vtl2GpaPoolConfig) → config_of k p ≡ Some v → (k ≡ config_word v) × (p ≡ pages_for v) × SizedConfig v
config_spelled k p v e = go (same_bytes k (ascii "pages")) (same_bytes p absent) (number_of p) refl refl refl e
  where
    go : (s t : Bool) (o : Option ℕ) → same_bytes k (ascii "pages") ≡ s → same_bytes p absent ≡ t → number_of p ≡ o
        → cond s (after o (λ n. Some (Pages n))) (cond t (kind_without_pages k) None) ≡ Some v
        → (k ≡ config_word v) × (p ≡ pages_for v) × SizedConfig v
    go true t None q a b h = absurd (none-some v h)
    go true t (Some n) q a b h =
        let number = number_spelled p n b in
        rw (← same_Some _ v h) (same_eq k _ q, number.0, number.1)
    go false true o q a b h = let w = without-pages k v h in (w.0, same_eq p absent a ∙ sym w.1, w.2)
    go false false o q a b h = absurd (none-some v h)
