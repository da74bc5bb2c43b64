-- What an accepted taking gives each node: as many bytes as it needs, and less than one step of 32,768 bytes more;
-- from the node's own free entries, no byte twice; in whole pages. A node that is not asked for gets nothing.
-- And a taking that is refused has a node whose free bytes are below its need, or too many pieces.
-- Each is shown of the taking of one need from a list of entries first.
use Rattle.std.specs.Prelude.{ℕ, ◌+◌, ◌-◌, ◌≤◌, ◌<◌, ◌≡◌, refl, Bool, true, false, cond, ◌⊎◌, List, [], ◌∷◌, ◌++◌, reverse, eqb, length, Some, None}
use Rattle.std.proofs.Common.{sym, ◌∙◌, true≢false, append-nil, arith, eqb-true, eq-eqb, le-ltb}
use Rattle.std.proofs.Math.Bool.{and-false, or-true}
use Rattle.std.proofs.Math.Logic.{inl, inr, ⊎_elim}
use Rattle.std.proofs.Math.Decide.{dec_le}
use Rattle.std.proofs.lemmas.Bool.{eqb-false, lt-leb}
use Rattle.memory_range.specs.List.{ranges_in}
use Rattle.memory_range.specs.declared.range.MemoryRange.{MemoryRange}
use Rattle.memory_range.specs.declared.range.TaggedRange.{TaggedRange}
use Rattle.memory_range.specs.Range.{length_of, holds}
use Rattle.memory_range.specs.Bytes.{holders, All}
use Rattle.memory_range.specs.Laws.Bytes.{Place, below, inside, above, place}
use Rattle.range_lists.specs.Laws.Node.{AscendsFrom, has, not-before}
use Rattle.memory_range.specs.Laws.Round.{down_below, down_near}
use Rattle.boot_ram.specs.Held.{holders_on, chosen_in, Fits, AtPage, Paged, on_node, bytes_of}
use Rattle.boot_nodes.specs.Share.{share_step}
use Rattle.boot_take.specs.Take.{taken_start, taken_of, need_on, take_from, take_on, take_all_of, taking}
use Rattle.boot_ram.specs.Verdict.{Verdict, choose, refuse, max_chosen}
use Rattle.boot_ram.specs.Laws.Judged.{NotRefused, RefusesAs, judged-accepted, accepted-none_refused, accepted-fits, judged-told, chosen_append}
use Rattle.memory_range.specs.Laws.Bytes.{all_append, all_split, all-reverse}
use Rattle.boot_ram.specs.Laws.OnNode.{all-on, on_append, on_same, on_other, holders-reverse}
use Rattle.memory_range.specs.Laws.Count.{bytes_same}
use Rattle.refusal.specs.declared.Refusal.{Refusal}
use Rattle.refusal.specs.Number.{node_too_small, too_many_pieces}

-- the bytes taken meet a need: they are as many, or less than one step more, and none where there is no need
abbrev pub Meets : ℕ → ℕ → Type 0
Meets need bytes = (need ≤ bytes) × (need ≡ 0 → bytes ≡ 0) × (bytes < need + share_step)

-- one entry
module _ (need : ℕ) (r : MemoryRange) where
  taken_near : length_of (taken_of need r) < need + share_step
  taken_near = omega (arith, down_near share_step (r.end - need) (omega arith))

  taken-held : (a : ℕ) → cond (holds (taken_of need r) a) 1 0 ≤ cond (holds r a) 1 0
  taken-held a = go (place r a)
    where
      most : (b : Bool) → cond b 1 0 ≤ 1
      most true = omega arith
      most false = omega arith

      go : Place r a → cond (holds (taken_of need r) a) 1 0 ≤ cond (holds r a) 1 0
      go (below h e) = rw (e, lt-leb (taken_start need r) a (omega arith)) (omega arith)
      go (inside l h e) = rw e (most (holds (taken_of need r) a))
      go (above h e) = rw (e, le-ltb a r.end h, and-false) (omega arith)

  taken-page : AtPage r.start → AtPage (taken_start need r)
  taken-page e = omega arith

-- what is left of a need behind an entry
abbrev rest_of : ℕ → TaggedRange → ℕ
rest_of need e = need - length_of (taken_of need e.range)

-- what is shown of a need that is met already and of one that is not holds of the taking
by_need : (P : List Verdict → Type 0) (n need : ℕ) (e : TaggedRange) (es : List TaggedRange) → (need ≡ 0 → P [])
    → (0 < need → P (choose (record { range = taken_of need e.range; tag = n }) ∷ take_from n (rest_of need e) es))
    → P (take_from n need (e ∷ es))
by_need P n need e es met more = go (eqb need 0) refl
  where
    go : (b : Bool) → eqb need 0 ≡ b → P (take_from n need (e ∷ es))
    go true h = rw h (met (eqb-true need 0 h))
    go false h = rw h (more (omega (arith, eqb-false need 0 h)))

by_end : (P : List Verdict → Type 0) (n need : ℕ) → (need ≡ 0 → P []) → P (refuse node_too_small ∷ []) → P (take_from n need [])
by_end P n need met short = go (eqb need 0) refl
  where
    go : (b : Bool) → eqb need 0 ≡ b → P (take_from n need [])
    go true h = rw h (met (eqb-true need 0 h))
    go false h = rw h short

-- a need is met by a piece and by what meets the rest of the need
meets_more : (need t b : ℕ) → 0 < need → t < need + share_step → Meets (need - t) b → Meets need (t + b)
meets_more need t b lack near m = (omega arith, (λ z. absurd (omega arith)), go (dec_le need t))
  where
    go : Dec (need ≤ t) → t + b < need + share_step
    go (yes h) = omega (arith, m.1 (omega arith))
    go (no h) = omega arith

-- one node
pub take_meets : (n need : ℕ) (es : List TaggedRange) → All NotRefused (take_from n need es) → Meets need (bytes_of (chosen_in (take_from n need es)))
take_meets n need [] =
    by_end (λ vs. All NotRefused vs → Meets need (bytes_of (chosen_in vs))) n need (λ z h. (omega arith, (λ _. refl), omega arith)) (λ h. absurd h.0)
take_meets n need (e ∷ es) =
    by_need (λ vs. All NotRefused vs → Meets need (bytes_of (chosen_in vs))) n need e es (λ z h. (omega arith, (λ _. refl), omega arith))
    (λ lack h. meets_more need _ _ lack (taken_near need e.range) (take_meets n (rest_of need e) es h.1))

pub take-held : (n need : ℕ) (es : List TaggedRange) (a : ℕ) → holders (ranges_in (chosen_in (take_from n need es))) a ≤ holders (ranges_in es) a
take-held n need [] a = by_end (λ vs. holders (ranges_in (chosen_in vs)) a ≤ 0) n need (λ z. omega arith) (omega arith)
take-held n need (e ∷ es) a =
    by_need (λ vs. holders (ranges_in (chosen_in vs)) a ≤ holders (ranges_in (e ∷ es)) a) n need e es (λ z. omega arith)
    (λ lack. omega (arith, taken-held need e.range a, take-held n (rest_of need e) es a))

pub take_paged : (n need : ℕ) (es : List TaggedRange) → Paged es → Paged (chosen_in (take_from n need es))
take_paged n need [] h = by_end (λ vs. Paged (chosen_in vs)) n need (λ z. tt) tt
take_paged n need (e ∷ es) h =
    by_need (λ vs. Paged (chosen_in vs)) n need e es (λ z. tt)
    (λ lack. (
      (omega (arith, down_below share_step (e.range.end - need) (omega arith)), taken-page need e.range h.0.1, h.0.2),
      take_paged n (rest_of need e) es h.1,
    ))

-- what a node takes is its own
take_tags : (n need : ℕ) (es : List TaggedRange) → All (λ x. x.tag ≡ n) (chosen_in (take_from n need es))
take_tags n need [] = by_end (λ vs. All (λ x. x.tag ≡ n) (chosen_in vs)) n need (λ z. tt) tt
take_tags n need (e ∷ es) =
    by_need (λ vs. All (λ x. x.tag ≡ n) (chosen_in vs)) n need e es (λ z. tt)
    (λ lack. (refl, take_tags n (rest_of need e) es))

-- entries that have the bytes of a need meet it
enough-kept : (n need : ℕ) (es : List TaggedRange) → need ≤ bytes_of es → All NotRefused (take_from n need es)
enough-kept n need [] h = rw (eq-eqb need 0 (omega arith)) tt
enough-kept n need (e ∷ es) h =
    by_need (All NotRefused) n need e es (λ z. tt)
    (λ lack. (tt, enough-kept n (rest_of need e) es (omega (arith, down_below share_step (e.range.end - need) (omega arith)))))

take_refuses : (n need : ℕ) (es : List TaggedRange) → All (RefusesAs node_too_small) (take_from n need es)
take_refuses n need [] = by_end (All (RefusesAs node_too_small)) n need (λ z. tt) (refl, tt)
take_refuses n need (e ∷ es) =
    by_need (All (RefusesAs node_too_small)) n need e es (λ z. tt) (λ lack. (tt, take_refuses n (rest_of need e) es))

module _ (share : ℕ) (pieces free : List TaggedRange) where
  -- the verdicts of one node, and the pieces of all nodes
  abbrev of_node : ℕ → List Verdict
  of_node n = take_on n (need_on share pieces n) free

  abbrev of_all : List ℕ → List TaggedRange
  of_all ns = chosen_in (take_all_of share pieces free ns)

  node_tags : (n : ℕ) → All (λ x. x.tag ≡ n) (chosen_in (of_node n))
  node_tags n = take_tags n (need_on share pieces n) (on_node n (reverse free))

  all-on-node : (n m : ℕ) (ns : List ℕ) → on_node n (of_all (m ∷ ns)) ≡ on_node n (chosen_in (of_node m)) ++ on_node n (of_all ns)
  all-on-node n m ns = rw (chosen_append (of_node m) (take_all_of share pieces free ns)) (on_append n (chosen_in (of_node m)) (of_all ns))

  behind_other : (n m : ℕ) (ns : List ℕ) → eqb n m ≡ false → on_node n (of_all (m ∷ ns)) ≡ on_node n (of_all ns)
  behind_other n m ns d = rw (all-on-node n m ns, on_other n m (chosen_in (of_node m)) (eqb-false n m d) (node_tags m))

  all_elsewhere : (n : ℕ) (ns : List ℕ) → has n ns ≡ false → on_node n (of_all ns) ≡ []
  all_elsewhere n [] h = refl
  all_elsewhere n (m ∷ ns) h = go (eqb n m) refl (all_elsewhere n ns)
    where
      go : (b : Bool) → eqb n m ≡ b → (has n ns ≡ false → on_node n (of_all ns) ≡ []) → on_node n (of_all (m ∷ ns)) ≡ []
      go true e i = absurd (true≢false (rw e at h))
      go false e i = behind_other n m ns e ∙ i (rw e at h)

  -- a node's pieces are those that it takes itself, and its verdicts are among all
  abbrev Own : ℕ → List ℕ → Type 0
  Own n ns = (on_node n (of_all ns) ≡ chosen_in (of_node n)) × (All NotRefused (take_all_of share pieces free ns) → All NotRefused (of_node n))

  all_own : (k n : ℕ) (ns : List ℕ) → AscendsFrom k ns → has n ns ≡ true → Own n ns
  all_own k n [] up h = absurd (true≢false (sym h))
  all_own k n (m ∷ ns) up h = go (eqb n m) refl (all_own (m + 1) n ns up.1)
    where
      here : n ≡ m → Own n (m ∷ ns)
      here e =
          let no_more = all_elsewhere m ns (not-before (m + 1) m ns up.1 (omega arith)) in
          rw e (
            all-on-node m m ns ∙ rw (on_same m (chosen_in (of_node m)) (node_tags m), no_more, append-nil),
            λ a. (all_split NotRefused (of_node m) (take_all_of share pieces free ns) a).0,
          )

      go : (b : Bool) → eqb n m ≡ b → (has n ns ≡ true → Own n ns) → Own n (m ∷ ns)
      go true e i = here (eqb-true n m e)
      go false e i =
          let own = i (rw e at h) in
          (behind_other n m ns e ∙ own.0, λ a. own.1 (all_split NotRefused (of_node m) (take_all_of share pieces free ns) a).1)

  all_paged : Paged free → (ns : List ℕ) → Paged (of_all ns)
  all_paged h [] = tt
  all_paged h (m ∷ ns) =
      let own = take_paged m (need_on share pieces m) (on_node m (reverse free)) (all-on _ m (reverse free) (all-reverse _ free h)) in
      rw (chosen_append (of_node m) (take_all_of share pieces free ns)) (all_append _ (chosen_in (of_node m)) (of_all ns) own (all_paged h ns))

  -- nodes whose free bytes are not below their need are not refused
  abbrev pub Enough : List ℕ → Type 0
  Enough ns = (n : ℕ) → has n ns ≡ true → need_on share pieces n ≤ bytes_of (on_node n free)

  all-kept : (ns : List ℕ) → Enough ns → All NotRefused (take_all_of share pieces free ns)
  all-kept [] h = tt
  all-kept (m ∷ ns) h =
      let same = bytes_same (ranges_in (on_node m (reverse free))) (ranges_in (on_node m free)) (λ a. holders-reverse m free a) in
      let here = h m (rw (eq-eqb m m refl)) in
      all_append NotRefused (of_node m) (take_all_of share pieces free ns)
      (enough-kept m (need_on share pieces m) (on_node m (reverse free)) (omega (arith, same, here)))
      (all-kept ns (λ n q. h n (rw (q, or-true))))

  all_refuses : (ns : List ℕ) → All (RefusesAs node_too_small) (take_all_of share pieces free ns)
  all_refuses [] = tt
  all_refuses (m ∷ ns) =
      all_append (RefusesAs node_too_small) (of_node m) (take_all_of share pieces free ns)
      (take_refuses m (need_on share pieces m) (on_node m (reverse free))) (all_refuses ns)

  -- why a taking is refused
  pub taking-told : (nodes : List ℕ) {n : Refusal} → (taking share pieces free nodes).refusal ≡ Some n
      → ((n ≡ node_too_small) × (Enough nodes → ⊥)) ⊎ ((n ≡ too_many_pieces) × (Fits 0 (length pieces) (take_all_of share pieces free nodes) → ⊥))
  unfolding taking
  taking-told nodes e =
      ⊎_elim (λ t. inl (t.0, λ h. t.1 (all-kept nodes h))) inr
      (judged-told node_too_small 0 (length pieces) (take_all_of share pieces free nodes) (all_refuses nodes) e)

  module _ (nodes : List ℕ) (accepted : (taking share pieces free nodes).refusal ≡ None) where
    chosen-all : (taking share pieces free nodes).chosen ≡ of_all nodes
    unfolding taking
    chosen-all = (judged-accepted 0 (length pieces) (take_all_of share pieces free nodes) accepted).1

    none_refused : All NotRefused (take_all_of share pieces free nodes)
    unfolding taking
    none_refused = accepted-none_refused 0 (length pieces) (take_all_of share pieces free nodes) accepted

    -- the pieces, with those that are held already, are no more than can be held
    pub taking-fits : length pieces ≤ max_chosen → Fits 0 (length pieces) (take_all_of share pieces free nodes)
    unfolding taking
    taking-fits h = accepted-fits 0 (length pieces) (take_all_of share pieces free nodes) (omega arith) h accepted

    -- each node's need is met
    pub taking_bytes : (k : ℕ) → AscendsFrom k nodes → (n : ℕ) → has n nodes ≡ true
        → Meets (need_on share pieces n) (bytes_of (on_node n (taking share pieces free nodes).chosen))
    taking_bytes k up n h =
        let own = all_own k n nodes up h in
        rw (chosen-all, own.0) (take_meets n (need_on share pieces n) (on_node n (reverse free)) (own.1 none_refused))

    -- no other node has a piece
    pub taking_elsewhere : (n : ℕ) → has n nodes ≡ false → on_node n (taking share pieces free nodes).chosen ≡ []
    taking_elsewhere n h = rw chosen-all (all_elsewhere n nodes h)

    -- no byte is taken on a node more often than the node's free entries hold it
    pub taking-held : (k : ℕ) → AscendsFrom k nodes → (n a : ℕ) → holders_on n (taking share pieces free nodes).chosen a ≤ holders_on n free a
    taking-held k up n a = rw chosen-all (go (has n nodes) refl)
      where
        go : (b : Bool) → has n nodes ≡ b → holders_on n (of_all nodes) a ≤ holders_on n free a
        go true h =
            rw (all_own k n nodes up h).0
            (omega (arith, take-held n (need_on share pieces n) (on_node n (reverse free)) a, holders-reverse n free a))
        go false h = rw (all_elsewhere n nodes h) (omega arith)

    -- whole pages stay whole
    pub taking_paged : Paged free → Paged (taking share pieces free nodes).chosen
    taking_paged h = rw chosen-all (all_paged h nodes)
