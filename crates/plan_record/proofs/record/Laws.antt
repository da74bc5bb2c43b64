-- The fields of a record as the readers take them: one after the other from the front, and all that is left as the last.
use Rattle.std.specs.Prelude.{Option, Some, None}
use Prim.Native.Nat.{ℕ, ◌+◌, ◌≤◌, ◌<◌}
use mathlib.Core.Path.{◌≡◌, refl, ap, sym, ◌∙◌}
use mathlib.Core.Bool.{Bool, true, false, cond}
use mathlib.Core.List.{List, [], ◌∷◌}
use native.Mathlib.Omega.{arith}
use Rattle.std.proofs.Common.{Bor}
use native.Mathlib.Decide.{dec_lt}
use borrow.Author.Tests.{ne_eqb, lt-ltb, le-ltb}
use lib.ListN.{length, drop, drop_of_length-le}
use Rattle.memory_range.specs.declared.range.MemoryRange.{MemoryRange}
use Rattle.host_params.specs.declared.Vtl2GpaPoolConfig.{Vtl2GpaPoolConfig}
use Rattle.plan_fields.specs.Cut.{tab, split_on, first_part, first_of}
use Rattle.plan_fields.specs.Laws.Cut.{split-some, split-none, split-first, split_one}
use Rattle.plan_fields.specs.Laws.Number.{none_either, number-tab}
use Rattle.plan_fields.specs.Laws.Word.{same_eq}
use Rattle.plan_fields.specs.Number.{number_of}
use Rattle.plan_fields.specs.Word.{same_bytes, after}
use Rattle.plan_record.specs.declared.record.Record.{Record}
use Rattle.plan_record.specs.declared.record.Record.TheVariants.{Shape, Mem, Pool, Get}
use Rattle.plan_record.specs.Value.{absent, mode_of, isolation_of, entry_type_of, policy_of, kind_of, split_of, optional_of, node_from, optional_node_from, optional_node_of, config_of}
use Rattle.plan_record.proofs.value.Laws.{answered}
use Rattle.plan_record.specs.Record.{Taken, shape_of, mem_of, pool_of, get_of, range_of, record_for, line_of}

-- what the first of several fields makes with those behind it
pub first : {A B : Type 0} → (List ℕ → Option A) → (A → List (List ℕ) → Option B) → List (List ℕ) → Option B
first of next [] = None
first of next (p ∷ []) = None
first of next (p ∷ q ∷ ps) = after (of p) (λ v. next v (q ∷ ps))

-- what an only field makes
pub last : {A B : Type 0} → (List ℕ → Option A) → (A → Option B) → List (List ℕ) → Option B
last of next [] = None
last of next (p ∷ []) = after (of p) next
last of next (p ∷ q ∷ ps) = None

pub after_none : {A B : Type 0} (o : Option A) → after {B = B} o (λ x. None) ≡ None
after_none None = refl
after_none (Some x) = refl

after-after : {A B C : Type 0} (o : Option A) (f : A → Option B) (g : B → Option C) → after (after o f) g ≡ after o (λ x. after (f x) g)
after-after None f g = refl
after-after (Some x) f g = refl

-- the records so: another count of fields than a record has makes none
abbrev pub range_from : List (List ℕ) → Option MemoryRange
range_from = first number_of (λ start. last number_of (λ end. Some (record { start = start; end = end })))

pub range-fields : (fs : List (List ℕ)) → range_of fs ≡ range_from fs
unfolding first last
range-fields [] = refl
range-fields (a ∷ []) = refl
range-fields (a ∷ b ∷ []) = refl
range-fields (a ∷ b ∷ c ∷ fs) = rw (ne_eqb (length (a ∷ b ∷ c ∷ fs)) 2 (λ h. omega arith)) (simp after_none)

pub of_range : (fs : List (List ℕ)) (x : Option MemoryRange) → x ≡ range_from fs → x ≡ range_of fs
of_range fs x p = p ∙ sym (range-fields fs)

abbrev pub mem_from : List (List ℕ) → Option Record
mem_from =
    first number_of (λ start.
    first number_of (λ end.
    first number_of (λ n fs.
    after (node_from n) (λ node.
    last entry_type_of (λ type.
    Some (Mem (record { range = record { start = start; end = end }; vnode = node; mem_type = type }))) fs))))

pub mem_fields : (fs : List (List ℕ)) → mem_of fs ≡ mem_from fs
unfolding first last
mem_fields [] = refl
mem_fields (a ∷ []) = refl
mem_fields (a ∷ b ∷ []) = simp after_none
mem_fields (a ∷ b ∷ c ∷ []) = simp after_none
mem_fields (a ∷ b ∷ c ∷ d ∷ []) = simp after-after
mem_fields (a ∷ b ∷ c ∷ d ∷ e ∷ fs) = rw (ne_eqb (length (a ∷ b ∷ c ∷ d ∷ e ∷ fs)) 4 (λ h. omega arith)) (simp after_none)

pub of_mem : (fs : List (List ℕ)) (x : Option Record) → x ≡ mem_from fs → x ≡ mem_of fs
of_mem fs x p = p ∙ sym (mem_fields fs)

abbrev pub shape_from : List (List ℕ) → Option Record
shape_from =
    first mode_of (λ mode.
    first isolation_of (λ isolation.
    last optional_of (λ size.
    Some (Shape (record { mode = mode; isolation = isolation; memory_size = size })))))

pub shape_fields : (fs : List (List ℕ)) → shape_of fs ≡ shape_from fs
unfolding first last
shape_fields [] = refl
shape_fields (a ∷ []) = refl
shape_fields (a ∷ b ∷ []) = simp after_none
shape_fields (a ∷ b ∷ c ∷ []) = refl
shape_fields (a ∷ b ∷ c ∷ d ∷ fs) = rw (ne_eqb (length (a ∷ b ∷ c ∷ d ∷ fs)) 3 (λ h. omega arith)) (simp after_none)

pub of_shape : (fs : List (List ℕ)) (x : Option Record) → x ≡ shape_from fs → x ≡ shape_of fs
of_shape fs x p = p ∙ sym (shape_fields fs)

-- `pool` takes its first two fields together
abbrev pub pool_behind : Vtl2GpaPoolConfig → Option ℕ → List (List ℕ) → Option Record
pool_behind config host =
    first number_of (λ processors.
    last split_of (λ split.
    Some (Pool (record { config = config; host_pages = host; processors = processors; split = split }))))

abbrev pub pool_from : List (List ℕ) → Option Record
pool_from =
    first Some (λ kind.
    first Some (λ pages fs.
    after (config_of kind pages) (λ config.
    first optional_of (λ host. pool_behind config host) fs)))

pub pool_fields : (fs : List (List ℕ)) → pool_of fs ≡ pool_from fs
unfolding first last
pool_fields [] = refl
pool_fields (a ∷ []) = refl
pool_fields (a ∷ b ∷ []) = refl
pool_fields (a ∷ b ∷ c ∷ []) = sym (after_none (config_of a b))
pool_fields (a ∷ b ∷ c ∷ d ∷ []) = simp after_none
pool_fields (a ∷ b ∷ c ∷ d ∷ e ∷ []) = refl
pool_fields (a ∷ b ∷ c ∷ d ∷ e ∷ f ∷ fs) = rw (ne_eqb (length (a ∷ b ∷ c ∷ d ∷ e ∷ f ∷ fs)) 5 (λ h. omega arith)) (simp after_none)

pub of-pool : (fs : List (List ℕ)) (x : Option Record) → x ≡ pool_from fs → x ≡ pool_of fs
of-pool fs x p = p ∙ sym (pool_fields fs)

optional-node : (f : List ℕ) → optional_node_of f ≡ after (optional_of f) optional_node_from
optional-node f = go (same_bytes f absent) (number_of f)
  where
    go : (t : Bool) (o : Option ℕ)
        → cond t (Some None) (after (after o node_from) (λ n. Some (Some n)))
        ≡ after (cond t (Some None) (after o (λ n. Some (Some n)))) optional_node_from
    go true o = refl
    go false None = refl
    go false (Some n) = refl

abbrev pub get_behind : Option ℕ → ℕ → List (List ℕ) → Option Record
get_behind node len =
    first policy_of (λ policy.
    first kind_of (λ kind.
    last optional_of (λ align.
    Some (Get (record { required_vnode = node; len = len; allocation_policy = policy; allocation_type = kind; alignment = align })))))

abbrev pub get_from : List (List ℕ) → Option Record
get_from =
    first optional_of (λ number fs.
    after (optional_node_from number) (λ node.
    first number_of (λ len. get_behind node len) fs))

pub get_fields : (fs : List (List ℕ)) → get_of fs ≡ get_from fs
unfolding first last
get_fields [] = refl
get_fields (a ∷ []) = refl
get_fields (a ∷ b ∷ []) = simp after_none
get_fields (a ∷ b ∷ c ∷ []) = simp after_none
get_fields (a ∷ b ∷ c ∷ d ∷ []) = simp after_none
get_fields (a ∷ b ∷ c ∷ d ∷ e ∷ []) = rw (optional-node a) (simp after-after)
get_fields (a ∷ b ∷ c ∷ d ∷ e ∷ f ∷ fs) = rw (ne_eqb (length (a ∷ b ∷ c ∷ d ∷ e ∷ f ∷ fs)) 5 (λ h. omega arith)) (simp after_none)

pub of_get : (fs : List (List ℕ)) (x : Option Record) → x ≡ get_from fs → x ≡ get_of fs
of_get fs x p = p ∙ sym (get_fields fs)

-- how the bytes of the fields are taken: the first field of several
first-cons : {A B : Type 0} (of : List ℕ → Option A) (next : A → List (List ℕ) → Option B) (p : List ℕ) (ps : List (List ℕ))
    → 1 ≤ length ps → first of next (p ∷ ps) ≡ after (of p) (λ v. next v ps)
unfolding first
first-cons of next p [] h = absurd (omega arith)
first-cons of next p (q ∷ ps) h = refl

module _ {A B : Type 0} (of : List ℕ → Option A) (next : A → List (List ℕ) → Option B) (bs : List ℕ) where
  first_of_several : length (first_part tab bs) < length bs
      → first of next (split_on tab bs) ≡ after (of (first_part tab bs)) (λ v. next v (split_on tab (drop (length (first_part tab bs) + 1) bs)))
  first_of_several h = rw (split-first tab bs h) (first-cons of next _ _ (split-some tab (drop (length (first_part tab bs) + 1) bs)))

  first_of-one : length bs ≤ length (first_part tab bs) → first of next (split_on tab bs) ≡ None
  unfolding first
  first_of-one h = rw (split-none tab bs h)

  -- its value with its length, as the readers of numbers give it
  by_size : first of next (split_on tab bs) ≡ after (first_of of bs) (λ s. next s.0 (split_on tab (drop (s.1 + 1) bs)))
  unfolding first_of
  by_size = elim (dec_lt (length (first_part tab bs)) (length bs)) [
    | yes k ↦ first_of_several k ∙ rw (lt-ltb (length (first_part tab bs)) (length bs) k) (sym (after-after (of (first_part tab bs)) (λ v. Some (v, length (first_part tab bs))) (λ s. next s.0 (split_on tab (drop (s.1 + 1) bs)))))
    | no k ↦ first_of-one (omega arith) ∙ rw (le-ltb (length (first_part tab bs)) (length bs) (omega arith))
  ]

-- one that a reader took with the fields behind it: the reader's answer `r`
module _ {A : Type 0} (of : List ℕ → Option A) (B : Type 0) (bs : List ℕ) (next : A → List (List ℕ) → Option B) (r : Option (A × Bor (List ℕ))) where
  pub part_next : (part : A × Bor (List ℕ)) (x : Option B)
      → Taken (first_of of bs) bs r → r ≡ Some part → x ≡ next part.0 (split_on tab (part.1).now) → x ≡ first of next (split_on tab bs)
  part_next part x e k p = rw (by_size of next bs) (go (first_of of bs) (rw k at e))
    where
      go : (o : Option (A × ℕ)) → Taken o bs (Some part) → x ≡ after o (λ s. next s.0 (split_on tab (drop (s.1 + 1) bs)))
      go None f = absurd f
      go (Some s) f = rw (← f.0, ← f.1) p

  pub part_none : (x : Option B) → Taken (first_of of bs) bs r → r ≡ None → x ≡ None → x ≡ first of next (split_on tab bs)
  part_none x e k p = rw (by_size of next bs) (go (first_of of bs) (rw k at e))
    where
      go : (o : Option (A × ℕ)) → Taken o bs None → x ≡ after o (λ s. next s.0 (split_on tab (drop (s.1 + 1) bs)))
      go None f = p
      go (Some s) f = absurd f

-- a field that was cut off: where none is behind it, the next one is read as empty, and nothing is made of that
pub empty-first : {A B : Type 0} (of : List ℕ → Option A) (next : A → List (List ℕ) → Option B) → first of next ([] ∷ []) ≡ None
unfolding first
empty-first of next = refl

pub empty_last : {A B : Type 0} (of : List ℕ → Option A) (next : A → Option B) → of [] ≡ None → last of next ([] ∷ []) ≡ None
unfolding last
empty_last of next e = rw e

pub empty-after : {A B : Type 0} (o : Option A) (next : A → Option B) → ((v : A) → next v ≡ None) → after o next ≡ None
empty-after None next e = refl
empty-after (Some v) next e = e v

cut_field : {A B : Type 0} (of : List ℕ → Option A) (next : A → List (List ℕ) → Option B) (bs p rest : List ℕ)
    → p ≡ first_part tab bs → rest ≡ drop (length p + 1) bs → ((v : A) → next v ([] ∷ []) ≡ None)
    → first of next (split_on tab bs) ≡ after (of p) (λ v. next v (split_on tab rest))
cut_field of next bs p rest e r h = elim (dec_lt (length (first_part tab bs)) (length bs)) [
  | yes k ↦ rw (r, e) (first_of_several of next bs k)
  | no k ↦
      let behind : rest ≡ [] = r ∙ drop_of_length-le bs {i = length p + 1} (rw e (omega arith)) in
      first_of-one of next bs (omega arith) ∙ rw behind (sym (simp (h, after_none)))
]

-- the same where its bytes are the value
pub cut-next : (B : Type 0) (bs : List ℕ) (next : List ℕ → List (List ℕ) → Option B) (p rest : List ℕ) (x : Option B)
    → p ≡ first_part tab bs → rest ≡ drop (length p + 1) bs → ((v : List ℕ) → next v ([] ∷ []) ≡ None)
    → x ≡ next p (split_on tab rest) → x ≡ first Some next (split_on tab bs)
cut-next B bs next p rest x e d h y = y ∙ sym (cut_field Some next bs p rest e d h)

last_of_several : {A B : Type 0} (of : List ℕ → Option A) (next : A → Option B) (ps : List (List ℕ)) → 2 ≤ length ps → last of next ps ≡ None
unfolding last
last_of_several of next [] h = refl
last_of_several of next (p ∷ []) h = absurd (omega arith)
last_of_several of next (p ∷ q ∷ ps) h = refl

module _ {A : Type 0} (of : List ℕ → Option A) (B : Type 0) (r : Option A) (bs : List ℕ) (x : Option B) where
  pub word_next : (next : A → List (List ℕ) → Option B) (p rest : List ℕ) (v : A)
      → p ≡ first_part tab bs → rest ≡ drop (length p + 1) bs → r ≡ of p → r ≡ Some v → ((v : A) → next v ([] ∷ []) ≡ None)
      → x ≡ next v (split_on tab rest) → x ≡ first of next (split_on tab bs)
  word_next next p rest v e d t k h y = rw (cut_field of next bs p rest e d h, ← t, k) y

  pub word_none : (next : A → List (List ℕ) → Option B) (p : List ℕ)
      → p ≡ first_part tab bs → r ≡ of p → r ≡ None → x ≡ None → x ≡ first of next (split_on tab bs)
  word_none next p e t k y = elim (dec_lt (length (first_part tab bs)) (length bs)) [
    | yes h ↦ rw (first_of_several of next bs h, ← e, ← t, k) y
    | no h ↦ y ∙ sym (first_of-one of next bs (omega arith))
  ]

  -- the last field: where a tab is in it, it stands for nothing
  whole : ((l : List ℕ) → 2 ≤ length (split_on tab l) → of l ≡ None) → (next : A → Option B)
      → r ≡ of bs → x ≡ after r next → x ≡ last of next (split_on tab bs)
  unfolding last
  whole clean next t y = elim (dec_lt 1 (length (split_on tab bs))) [
    | yes h ↦ y ∙ rw (last_of_several of next (split_on tab bs) h, t, clean bs h)
    | no h ↦ rw (split_one tab bs (omega (arith, split-some tab bs)), ← t) y
  ]

  pub last_next : ((l : List ℕ) → 2 ≤ length (split_on tab l) → of l ≡ None) → (next : A → Option B) (v : A)
      → r ≡ of bs → r ≡ Some v → x ≡ next v → x ≡ last of next (split_on tab bs)
  last_next clean next v t k y = whole clean next t (rw k y)

  pub last_none : ((l : List ℕ) → 2 ≤ length (split_on tab l) → of l ≡ None) → (next : A → Option B)
      → r ≡ of bs → r ≡ None → x ≡ None → x ≡ last of next (split_on tab bs)
  last_none clean next t k y = whole clean next t (rw k y)

-- a tab is in no word
other_word : (bs w : List ℕ) → 2 ≤ length (split_on tab bs) → length (split_on tab w) ≡ 1 → same_bytes bs w ≡ false
other_word bs w h k = go (same_bytes bs w) refl
  where
    go : (t : Bool) → same_bytes bs w ≡ t → same_bytes bs w ≡ false
    go true e = let same = ap (λ (l : List ℕ). length (split_on tab l)) (same_eq bs w e) in absurd (omega arith)
    go false e = e

pub entry_type-tab : (bs : List ℕ) → 2 ≤ length (split_on tab bs) → entry_type_of bs ≡ None
entry_type-tab bs h = rw (other_word bs (112 ∷ []) h refl, other_word bs (111 ∷ []) h refl)

pub split-tab : (bs : List ℕ) → 2 ≤ length (split_on tab bs) → split_of bs ≡ None
split-tab bs h = rw (other_word bs (121 ∷ []) h refl, other_word bs (110 ∷ []) h refl)

pub optional-tab : (bs : List ℕ) → 2 ≤ length (split_on tab bs) → optional_of bs ≡ None
optional-tab bs h = rw (other_word bs absent h refl, number-tab bs h)

-- the fields in front of those that `pool_behind` and `get_behind` take, read
pub pool_front : (bs kind behind_kind pages behind_pages : List ℕ) (o : Option Vtl2GpaPoolConfig) (config : Vtl2GpaPoolConfig)
    (r : Option (Option ℕ × Bor (List ℕ))) (host : Option ℕ × Bor (List ℕ)) (x : Option Record)
    → kind ≡ first_part tab bs → behind_kind ≡ drop (length kind + 1) bs → pages ≡ first_part tab behind_kind
    → behind_pages ≡ drop (length pages + 1) behind_kind → o ≡ config_of kind pages → o ≡ Some config
    → Taken (first_of optional_of behind_pages) behind_pages r → r ≡ Some host
    → x ≡ pool_behind config host.0 (split_on tab (host.1).now) → x ≡ pool_of (split_on tab bs)
pool_front bs kind behind_kind pages behind_pages o config r host x e1 e2 e3 e4 e5 e6 e7 e8 p =
    search (of-pool, cut-next, answered, empty-first, empty-after, part_next) depth 7 fits 3000

pub get_front : (bs : List ℕ) (q : Option (Option ℕ × Bor (List ℕ))) (node : Option ℕ × Bor (List ℕ)) (o : Option (Option ℕ)) (vnode : Option ℕ)
    (r : Option (ℕ × Bor (List ℕ))) (len : ℕ × Bor (List ℕ)) (x : Option Record)
    → Taken (first_of optional_of bs) bs q → q ≡ Some node → o ≡ optional_node_from node.0 → o ≡ Some vnode
    → Taken (first_of number_of (node.1).now) (node.1).now r → r ≡ Some len
    → x ≡ get_behind vnode len.0 (split_on tab (len.1).now) → x ≡ get_of (split_on tab bs)
get_front bs q node o vnode r len x e1 e2 e3 e4 e5 e6 p = search (of_get, part_next, answered) depth 7 fits 3000

-- a word makes no record with no field behind it, nor with an empty one
no_fields : (w : List ℕ) → record_for w [] ≡ None
no_fields w = simp none_either

empty-field : (w : List ℕ) → record_for w ([] ∷ []) ≡ None
empty-field w = simp none_either

pub of_line : (bs w rest : List ℕ) (x : Option Record) → w ≡ first_part tab bs → rest ≡ drop (length w + 1) bs
    → x ≡ record_for w (split_on tab rest) → x ≡ line_of bs
of_line bs w rest x e d p = elim (dec_lt (length (first_part tab bs)) (length bs)) [
  | yes k ↦ rw (split-first tab bs k, ← e, ← d) p
  | no k ↦
      let behind : rest ≡ [] = d ∙ drop_of_length-le bs {i = length w + 1} (rw e (omega arith)) in
      rw (split-none tab bs (omega arith)) ((rw behind at p) ∙ empty-field w ∙ sym (no_fields bs))
]
