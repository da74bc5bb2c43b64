-- What a table says of a byte: in lists that are joined, and in a table in order, where it tells how many entries hold the byte.
use Rattle.std.specs.Prelude.{ℕ, ◌≤◌, ◌<◌, ◌≡◌, refl, Bool, true, false, cond, List, [], ◌∷◌, ◌++◌, eqb, Option, Some, None}
use Rattle.std.proofs.Common.{ap, arith, le-ltb}
use Rattle.std.proofs.Math.Bool.{and-false}
use Rattle.std.proofs.lemmas.Bool.{lt-leb}
use Rattle.memory_range.specs.declared.range.MemoryRange.{MemoryRange}
use Rattle.memory_range.specs.Bytes.{holders, Ordered}
use Rattle.memory_range.specs.List.{ranges_in}
use Rattle.memory_range.specs.Range.{holds}
use Rattle.memory_range.specs.Laws.Bytes.{Place, below, inside, above, place, counted, holders-cons}
use Rattle.boot_ram.specs.Held.{on_node}
use Rattle.address_space.specs.declared.table.AddressRange.{AddressRange}
use Rattle.address_space.specs.Table.{ranges_at}
use Rattle.memory_claims.specs.Claim.{noded_ranges, Note, note, note_at}

-- a range holds no byte below its start, and none from its end on
pub not_below : (r : MemoryRange) (a : ℕ) → a < r.start → holds r a ≡ false
not_below r a h = rw (lt-leb r.start a h)

pub not_above : (r : MemoryRange) (a : ℕ) → r.end ≤ a → holds r a ≡ false
not_above r a h = rw (le-ltb a r.end h, and-false)

-- two tables that say the same of a byte do so behind the same entries
pub same-behind : (es xs ys : List AddressRange) (a : ℕ) → note_at xs a ≡ note_at ys a → note_at (es ++ xs) a ≡ note_at (es ++ ys) a
same-behind [] xs ys a h = h
same-behind (e ∷ es) xs ys a h =
    ap (λ (u : Option Note). cond (holds e.range a) (Some (note e.vnode e.usage)) u) (same-behind es xs ys a h)

-- a table in order says nothing of a byte below its first entry
pub none_below : (b : ℕ) (es : List AddressRange) (a : ℕ) → Ordered b (ranges_at es) → a < b → note_at es a ≡ None
none_below b [] a o h = refl
none_below b (e ∷ es) a o h = rw (not_below e.range a (omega arith)) (none_below e.range.end es a o.1.1 (omega arith))

-- the entries below one of a table in order say nothing of a byte from its start on
module _ (e : AddressRange) (higher : List AddressRange) where
  pub starts-behind : (b : ℕ) (es : List AddressRange) → Ordered b (ranges_at (es ++ e ∷ higher)) → b ≤ e.range.start
  starts-behind b [] o = o.0
  starts-behind b (x ∷ es) o = omega (arith, o.0, o.1.0, starts-behind x.range.end es o.1.1)

  pub said-behind : (b : ℕ) (es xs : List AddressRange) (a : ℕ) → Ordered b (ranges_at (es ++ e ∷ higher)) → e.range.start ≤ a
      → note_at (es ++ xs) a ≡ note_at xs a
  said-behind b [] xs a o h = refl
  said-behind b (x ∷ es) xs a o h =
      let reached = starts-behind x.range.end es o.1.1 in
      rw (not_above x.range a (omega arith)) (said-behind x.range.end es xs a o.1.1 h)

-- how many entries of a table in order hold a byte, by what it says of the byte: in all, and of a node
abbrev pub counted_on : ℕ → Option Note → ℕ
counted_on n None = 0
counted_on n (Some x) = cond (eqb x.node n) 1 0

pub note-holders : (b : ℕ) (es : List AddressRange) (a : ℕ) → Ordered b (ranges_at es) → holders (ranges_at es) a ≡ counted (note_at es a)
note-holders b [] a o = refl
note-holders b (e ∷ es) a o =
    holders-cons b e.range (ranges_at es) a (note e.vnode e.usage) (note_at es a) o (note-holders e.range.end es a o.1.1)

pub note-holders-on : (b n : ℕ) (es : List AddressRange) (a : ℕ) → Ordered b (ranges_at es)
    → holders (ranges_in (on_node n (noded_ranges es))) a ≡ counted_on n (note_at es a)
note-holders-on b n [] a o = refl
note-holders-on b n (e ∷ es) a o = go (eqb e.vnode n) refl (place e.range a) (note-holders-on e.range.end n es a o.1.1)
  where
    go : (t : Bool) → eqb e.vnode n ≡ t → Place e.range a → holders (ranges_in (on_node n (noded_ranges es))) a ≡ counted_on n (note_at es a)
        → holders (ranges_in (on_node n (noded_ranges (e ∷ es)))) a ≡ counted_on n (note_at (e ∷ es) a)
    go true p (below h f) i = rw (p, f) (omega arith)
    go true p (inside l h f) i = rw (p, f, p) (omega (arith, rw (none_below e.range.end es a o.1.1 h) at i))
    go true p (above h f) i = rw (p, f) (omega arith)
    go false p (below h f) i = rw (p, f) i
    go false p (inside l h f) i = rw (f, p) (rw (none_below e.range.end es a o.1.1 h) at i)
    go false p (above h f) i = rw (p, f) i
