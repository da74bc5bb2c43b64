-- Laws of entries that are linked by the remainder of their tag by 64, each to the next lower one of the same remainder:
-- how the links are made, one entry at a time, and that a node that takes along them passes over no entry of its own.
-- A place is an index and 1; 0 is none.
use Rattle.std.specs.Prelude.{ℕ, zero, suc, ◌+◌, ◌-◌, ◌%◌, ◌≤◌, ◌<◌, ◌≡◌, List, length, get_or, set, replicate, reverse}
use Rattle.std.proofs.Common.{ap, sym, ◌∙◌, arith, get_or-set_same, get_or-set_other}
use Rattle.std.proofs.Math.Decide.{ℕ_discrete}
use Rattle.std.proofs.lemmas.List.{get_or-replicate, take_all}
use Rattle.memory_range.specs.declared.range.TaggedRange.{TaggedRange}
use Rattle.boot_ram.specs.Held.{on_node}
use Rattle.boot_take.specs.Take.{take_on, take_from}
use Rattle.boot_take.specs.Laws.TakeSteps.{tag_at, take_below, take_other}

-- p is the place of the last of the first n entries with the remainder c
pub record Last (fs : List TaggedRange) (c n p : ℕ) : Type 0 where
  pub within : p ≤ n
  pub own : 0 < p → tag_at fs (p - 1) % 64 ≡ c
  pub none : (k : ℕ) → p ≤ k → k < n → tag_at fs k % 64 ≡ c → ⊥

-- each of the first n entries is linked to the last one below it of its remainder
abbrev pub Linked : List TaggedRange → List ℕ → ℕ → Type 0
Linked fs lower n = (i : ℕ) → i < n → Last fs (tag_at fs i % 64) i (get_or lower i 0)

-- the last one of each remainder is found
abbrev pub Highest : List TaggedRange → List ℕ → ℕ → Type 0
Highest fs highest n = (c : ℕ) → c < 64 → Last fs c n (get_or highest c 0)

-- a place is none, or has the remainder of a node
abbrev pub Begins : List TaggedRange → ℕ → ℕ → Type 0
Begins fs node p = 0 < p → tag_at fs (p - 1) % 64 ≡ node % 64

-- before the first entry there is none
pub linked-none : (fs : List TaggedRange) (lower : List ℕ) → Linked fs lower 0
linked-none fs lower i h = absurd (omega arith)

pub highest-none : (fs : List TaggedRange) → Highest fs (replicate 64 0) 0
highest-none fs c h =
    rw (get_or-replicate {A = ℕ} 64 c 0 0 h)
    (record { within = omega arith; own = λ g. absurd (omega arith); none = λ k a b. absurd (omega arith) })

-- an entry is linked to the highest one of its remainder, and is then the highest
last-here : (fs : List TaggedRange) (i : ℕ) → Last fs (tag_at fs i % 64) (i + 1) (i + 1)
last-here fs i =
    let e : i + 1 - 1 ≡ i = omega arith in
    record { within = omega arith; own = λ g. rw e; none = λ k a b. absurd (omega arith) }

last_more : (fs : List TaggedRange) (c i p : ℕ) → (c ≡ tag_at fs i % 64 → ⊥) → Last fs c i p → Last fs c (i + 1) p
last_more fs c i p g l =
    record {
      within = omega (arith, l.within);
      own = l.own;
      none =
          λ k a b e.
          elim (ℕ_discrete k i) [
            | yes h ↦ g (sym (rw h at e))
            | no h ↦ l.none k a (omega arith) e
          ];
    }

module _ (fs : List TaggedRange) (highest lower : List ℕ) (i : ℕ) (links : Linked fs lower i) (tops : Highest fs highest i) where
  pub linked-next : i < length lower → Linked fs (set lower i (get_or highest (tag_at fs i % 64) 0)) (i + 1)
  linked-next h j g =
      elim (ℕ_discrete j i) [
        | yes e ↦ rw (e, get_or-set_same lower i (get_or highest (tag_at fs i % 64) 0) 0 h) (tops (tag_at fs i % 64) (omega arith))
        | no n ↦ rw (get_or-set_other lower i j (get_or highest (tag_at fs i % 64) 0) 0 n) (links j (omega arith))
      ]

  pub highest-next : length highest ≡ 64 → Highest fs (set highest (tag_at fs i % 64) (i + 1)) (i + 1)
  highest-next h c g =
      elim (ℕ_discrete c (tag_at fs i % 64)) [
        | yes e ↦ rw (e, get_or-set_same highest (tag_at fs i % 64) (i + 1) 0 (omega arith)) (last-here fs i)
        | no n ↦ rw (get_or-set_other highest (tag_at fs i % 64) c (i + 1) 0 n) (last_more fs c i _ n (tops c g))
      ]

-- the link of a place leads to the last one below it of its remainder
pub linked_lower : (fs : List TaggedRange) (lower : List ℕ) (n p : ℕ) {top : ℕ} → Linked fs lower top → 0 < p → p ≤ top → Begins fs n p
    → Last fs (n % 64) (p - 1) (get_or lower (p - 1) 0)
linked_lower fs lower n p links a b own = rw (own a) at (links (p - 1) (omega arith))

-- where none of a node's entries stands between two places, the node takes the same below both
module _ (n need : ℕ) (fs : List TaggedRange) where
  take_past : (p m : ℕ) → p ≤ m → m ≤ length fs → ((k : ℕ) → p ≤ k → k < m → tag_at fs k ≡ n → ⊥)
      → take_below n need fs m ≡ take_below n need fs p
  take_past p zero a b f = let e : p ≡ 0 = omega arith in rw e
  take_past p (suc m) a b f =
      elim (ℕ_discrete p (suc m)) [
        | yes e ↦ rw e
        | no g ↦
            let e : suc m - 1 ≡ m = omega arith in
            rw e at (take_other n need fs (suc m) (omega arith) b (rw e (f m (omega arith) (omega arith))))
            ∙ take_past p m (omega arith) (omega arith) (λ k u v. f k u (omega arith))
      ]

  pub take_last : (p m : ℕ) → Last fs (n % 64) m p → m ≤ length fs → take_below n need fs m ≡ take_below n need fs p
  take_last p m l b = take_past p m l.within b (λ k u v e. l.none k u v (ap (λ (t : ℕ). t % 64) e))

  -- from the highest of its remainder on it takes what it takes of all
  pub take-highest : (highest : List ℕ) → Highest fs highest (length fs)
      → take_on n need fs ≡ take_below n need fs (get_or highest (n % 64) 0)
  take-highest highest tops =
      ap (λ (l : List TaggedRange). take_from n need (on_node n (reverse l))) (sym (take_all (length fs) fs (omega arith)))
      ∙ take_last _ (length fs) (tops (n % 64) (omega arith)) (omega arith)
