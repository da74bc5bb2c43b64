-- The claim, proved of the planner that the definitions are: for every accepted build and every list of calls.
use Rattle.std.specs.Prelude.{ℕ, ◌<◌, ◌≡◌, refl, Bool, true, ◌||◌, List, [], ◌∷◌, length, drop, Option, Some, None}
use Rattle.std.proofs.Common.{ap, sym, ◌∙◌, true≢false, arith}
use Rattle.std.proofs.Math.Bool.{or-false, or-true}
use Rattle.std.proofs.Math.Seq.{take-append_seam}
use Rattle.std.proofs.lemmas.Option.{same_Some}
use Rattle.refusal.specs.declared.Refusal.{Refusal}
use Rattle.refusal.specs.Number.{no_fit, table_full}
use Rattle.memory_range.specs.declared.range.MemoryRange.{MemoryRange}
use Rattle.memory_range.specs.declared.range.TaggedRange.{TaggedRange}
use Rattle.memory_range.specs.Bytes.{Ordered, All}
use Rattle.memory_range.specs.List.{ranges_in}
use Rattle.memory_range.specs.Round.{round_up}
use Rattle.memory_range.specs.Valid.{page_size}
use Rattle.memory_range.specs.Laws.Bytes.{ordered-once}
use Rattle.memory_range.specs.Laws.Round.{up_multiple, up_above}
use Rattle.address_space.specs.declared.request.AllocatedRange.{AllocatedRange}
use Rattle.address_space.specs.declared.table.AddressRange.{AddressRange}
use Rattle.address_space.specs.declared.table.AddressSpaceManager.{AddressSpaceManager}
use Rattle.address_space.specs.Request.{Outcome, rows_refusal, requested, allocation_as}
use Rattle.address_space.specs.Table.{entries_of, pool_of, table_with, empty_table, ranges_at}
use Rattle.address_space.specs.Usage.{is_pool}
use Rattle.address_space.specs.Laws.Request.{requested_refused, requested_rounded}
use Rattle.address_space.specs.Laws.Split.{entries_with}
use Rattle.memory.specs.declared.builder.AddressSpaceManagerBuilder.{AddressSpaceManagerBuilder}
use Rattle.memory.specs.Build.{Build, refused, built, build, has_pool, init_as}
use Rattle.memory_claims.specs.Laws.Build.{build-ordered, build_claimed}
use Rattle.memory_claims.specs.Laws.Part.{at-page}
use Rattle.memory_claims.specs.Laws.Request.{rows-passed}
use Rattle.private_pool.specs.Pool.{Placement, no_ranges, pool_placed, pool_as}
use Rattle.private_pool.specs.Pool as placement
use Rattle.ledger.specs.Call.{Request, Call, request, pool, Answer, gave, usage_of_call, result_on}
use Rattle.ledger.specs.Call as answer
use Rattle.ledger.specs.Ledger.{Ledger, fed}
use Rattle.ledger.specs.Search.{some_entry_fits, Searched}
use Rattle.ledger.specs.Planner.{Answered, planner, init_of, allocation_of, private_pool_of, answered, events, state_after, ledger_after}
use Rattle.ledger.specs.Claim.{sets_flag, CallClaim, Claim, first_ledger}
use Rattle.ledger.specs.Laws.Kept.{Kept, Given}
use Rattle.ledger.specs.Laws.Opened.{opened-free}
use Rattle.ledger.proofs.Placed.{GivenBy, pool-holds}
use Rattle.ledger.proofs.Searched.{SearchCase, search_case}
use Rattle.ledger.proofs.Searched as case

module _ (b : AddressSpaceManagerBuilder) (ram : List TaggedRange) (configs pools : List MemoryRange) where
  -- a call that came to this on the table m, with the ledger l: what is claimed of it, and what it keeps
  abbrev Held : Call → AddressSpaceManager → Ledger → Answered AddressSpaceManager → Type 0
  Held c m l a =
      CallClaim planner ram (record { call = c; met = m; ledger = l; answer = a.answer; left = a.state })
      × Kept b ram configs pools (entries_of a.state) (fed c a.answer l)

  module _ (c : Call) (m : AddressSpaceManager) (l : Ledger) (k : Kept b ram configs pools (entries_of m) l) where
    -- a refusal
    held_refused : (n : Refusal) → result_on c (entries_of m) ≡ placement.refused n → Searched ram c l.free (answer.refused n)
        → Held c m l (record { answer = answer.refused n; state = m })
    held_refused n e s = (
      record {
        answer = sym (ap answer.result_answer e);
        table = sym (ap (answer.result_entries (entries_of m)) e);
        were-free = tt;
        others-kept = λ a h. refl;
        refused-kept = λ n h. refl;
        flag = sym (or-false (pool_of m));
        searches = s;
      },
      k,
    )

    -- ranges that are handed out
    held-given : (xs : List AllocatedRange) (m' : AddressSpaceManager) (es' : List AddressRange) → entries_of m' ≡ es'
        → pool_of m' ≡ (pool_of m || sets_flag c (gave xs)) → result_on c (entries_of m) ≡ placement.placed xs es'
        → Given b ram configs pools (usage_of_call c) xs (entries_of m) es' l → Searched ram c l.free (gave xs)
        → Held c m l (record { answer = gave xs; state = m' })
    held-given xs m' es' e f a g s = (
      record {
        answer = sym (ap answer.result_answer a);
        table = e ∙ sym (ap (answer.result_entries (entries_of m)) a);
        were-free = g.were-free;
        others-kept = rw e g.others;
        refused-kept = λ n h. cc;
        flag = f;
        searches = s;
      },
      rw e g.kept,
    )

  -- a request
  module _ (r : Request) (m : AddressSpaceManager) (l : Ledger) (k : Kept b ram configs pools (entries_of m) l) where
    abbrev asked : Outcome
    asked = requested r.asked r.len r.type r.policy r.alignment (entries_of m)

    -- where a free range fits, the answer is no 25
    otherwise : (a : Answer) → (a ≡ answer.refused no_fit → ⊥) → some_entry_fits r.asked (round_up page_size r.len) r.alignment l.free ≡ true
        → Searched ram (request r) l.free a
    otherwise a other f rows = (λ h. absurd (other h), λ h. absurd (true≢false (sym f ∙ h)))

    searched-holds : (o : Outcome) → asked ≡ o
        → SearchCase b ram configs pools r.asked (round_up page_size r.len) r.type r.policy r.alignment (entries_of m) l o
        → Held (request r) m l (allocation_of (allocation_as m r.type o))
    searched-holds o e (case.no-fit f h) =
        rw h (held_refused (request r) m l k no_fit (ap answer.request_placed (e ∙ h)) (λ rows. (λ w. f, λ w. refl)))
    searched-holds o e (case.full f h) =
        rw h
        (held_refused (request r) m l k table_full (ap answer.request_placed (e ∙ h))
        (otherwise (answer.refused table_full) (λ w. cc) f))
    searched-holds o e (case.met x es' f g one h) =
        rw h
        (held-given (request r) m l k (x ∷ []) (table_with m es' (pool_of m || is_pool r.type)) es' (entries_with m es' (pool_of m || is_pool r.type)) refl
        (ap answer.request_placed (e ∙ h)) one
        (otherwise (gave (x ∷ [])) (λ w. cc) f))

    request-holds : Held (request r) m l (allocation_of (allocation_as m r.type asked))
    request-holds = go (rows_refusal r.len r.alignment) refl
      where
        go : (u : Option Refusal) → rows_refusal r.len r.alignment ≡ u → Held (request r) m l (allocation_of (allocation_as m r.type asked))
        go (Some n) rows =
            let e = requested_refused r.asked r.len r.type r.policy r.alignment (entries_of m) n (rw rows) in
            rw e (held_refused (request r) m l k n (ap answer.request_placed e) (λ passed. cc))
        go None rows =
            let rounded = round_up page_size r.len in
            let e = requested_rounded r.asked r.len r.type r.policy r.alignment (entries_of m) rounded (rw rows) in
            let passed = rows-passed r.asked r.len r.type r.policy r.alignment (entries_of m) rows in
            let some_bytes : 0 < rounded = omega (arith, up_above page_size r.len (omega arith)) in
            searched-holds asked refl
            (rw e
            (search_case b ram configs pools r.asked rounded r.type r.policy r.alignment (entries_of m) l k
            (at-page rounded (up_multiple page_size r.len)) some_bytes passed.1 r.bits))

  module _ (pages : ℕ) (split : Bool) (m : AddressSpaceManager) (l : Ledger) (k : Kept b ram configs pools (entries_of m) l)
      (o : Ordered 0 (ranges_in ram)) where
    pool-call-holds : Held (pool pages split) m l (private_pool_of (pool_as m (pool_placed pages split (entries_of m))))
    pool-call-holds = go (pool_placed pages split (entries_of m)) refl (pool-holds b ram configs pools pages (entries_of m) l k split o)
      where
        go : (p : Placement) → pool_placed pages split (entries_of m) ≡ p
            → Searched ram (pool pages split) l.free (answer.result_answer p) × GivenBy b ram configs pools (entries_of m) l p
            → Held (pool pages split) m l (private_pool_of (pool_as m p))
        go (placement.refused n) e h = held_refused (pool pages split) m l k n e h.0
        go (placement.placed xs es) e h =
            rw (take-append_seam xs (drop (length xs) no_ranges))
            (held-given (pool pages split) m l k xs (table_with m es true) es (entries_with m es true) (sym (or-true (pool_of m)))
            e h.1 h.0)

  -- every call
  call-holds : Ordered 0 (ranges_in ram) → (c : Call) (m : AddressSpaceManager) (l : Ledger) → Kept b ram configs pools (entries_of m) l
      → Held c m l (answered planner c m)
  call-holds o (request r) m l k = request-holds r m l k
  call-holds o (pool pages split) m l k = pool-call-holds pages split m l k o

  -- every list of them
  calls_hold : Ordered 0 (ranges_in ram) → (calls : List Call) (m : AddressSpaceManager) (l : Ledger) → Kept b ram configs pools (entries_of m) l
      → All (CallClaim planner ram) (events planner calls m l)
      × Kept b ram configs pools (entries_of (state_after planner calls m)) (ledger_after planner calls m l)
  calls_hold o [] m l k = (tt, k)
  calls_hold o (c ∷ cs) m l k =
      let first = call-holds o c m l k in
      let rest = calls_hold o cs (answered planner c m).state (fed c (answered planner c m).answer l) first.1 in
      ((first.0, rest.0), rest.1)

  -- what a build that is accepted establishes
  record Begun (s : AddressSpaceManager) : Type 0 where
    table : build b 0 ram configs pools ≡ built (entries_of s)
    flag : pool_of s ≡ has_pool pools
    ordered : Ordered 0 (ranges_in ram)
    kept : Kept b ram configs pools (entries_of s) (first_ledger planner b ram configs pools)

  begun : (s : AddressSpaceManager) → planner.build b ram configs pools ≡ Some s → Begun s
  begun s e = go (build b 0 ram configs pools) refl e
    where
      go : (o : Build) → build b 0 ram configs pools ≡ o → init_of (init_as empty_table (has_pool pools) o) ≡ Some s → Begun s
      go (refused n) p q = cc
      go (built es) p q =
          let m = table_with empty_table es (has_pool pools) in
          let is_m = sym (same_Some m s q) in
          let same : entries_of s ≡ es = ap entries_of is_m ∙ entries_with empty_table es (has_pool pools) in
          let claimed = build_claimed b 0 ram configs pools es p in
          record {
            table = p ∙ ap built (sym same);
            flag = ap pool_of is_m;
            ordered = build-ordered b 0 ram configs pools es p;
            kept = rw same (record { sound = claimed.sound; free = opened-free b 0 ram configs pools es p; usages = claimed.says });
          }

  pub claim-holds : (s : AddressSpaceManager) → planner.build b ram configs pools ≡ Some s → (calls : List Call) → Claim planner b ram configs pools s calls
  claim-holds s e calls =
      let first = begun s e in
      let run = calls_hold first.ordered calls s (first_ledger planner b ram configs pools) first.kept in
      let last = run.1 in
      let covers = last.sound.covers in
      let one = ordered-once 0 (ranges_at (entries_of (state_after planner calls s))) last.sound.ordered in
      record {
        first-table = first.table;
        first_flag = first.flag;
        once = λ a h. omega (arith, covers a, one a);
        no_other = λ a h. covers a ∙ h;
        totals = last.sound.totals;
        free-ranges = last.free;
        usages = last.usages;
        calls_hold = run.0;
      }
