-- What is known of the bytes of the input and of the output.
use Rattle.std.proofs.Common.{ℕ, ◌≡◌, ◌+◌, ◌≤◌, List, ◌++◌, None, Some, IfSome, length, take, sym, ap, ◌∙◌, subst, length-take-le}
use Rattle.std.proofs.Math.Seq.{take-append-add}
use Rattle.std.proofs.lemmas.Bool.{false≢true}
use Rattle.std.proofs.lemmas.List.{take-append-le}
use Rattle.std.specs.Io.KnownBytes.{Appends}
use Rattle.std.specs.Prelude.{Option, Result, Ok, Err, OnOk, is_ok}
use borrow.Rule.Slice.PartMut.{put_mid, post_of}
use Rattle.plan.specs.Planner.{plan_of}
use Rattle.bootplan.specs.Input.{ReadsFirst}
use Rattle.bootplan.specs.Output.{plan_bytes, output_for, input_size}

-- the first bytes of a part that is written stand behind those in front of it
pub take-put_mid_more : (a k n : ℕ) (xs ys : List ℕ) → a ≤ length xs → n ≤ length ys → take (a + n) (put_mid a k xs ys) ≡ take a xs ++ take n ys
take-put_mid_more a k n xs ys within fits =
    let after = post_of a k xs in
    ap (λ m. take (m + n) (take a xs ++ (ys ++ after))) (sym (length-take-le a xs within))
    ∙ take-append-add (take a xs) (ys ++ after) n
    ∙ ap (λ l. take a xs ++ l) (take-append-le n ys after fits)

-- the plan of what was read is that of the input
pub plan_written : (o a b : Option (List ℕ)) (len : ℕ) (buffer : List ℕ) → length buffer ≡ input_size → IfSome o (ReadsFirst (Ok len) buffer)
    → Appends a b (plan_bytes (plan_of (take len buffer))) → IfSome o (λ given. Appends a b (output_for given))
plan_written None a b len buffer room read wrote = tt
plan_written (Some given) a b len buffer room read wrote =
    subst (λ text. Appends a b (plan_bytes (plan_of text))) (read ∙ ap (λ n. take n given) room) wrote

-- what is known where there is no error, where the error has been replaced
pub ok_mapped : {T E F P Q : Type 0} (r : Result T E) (s : Result T F) → is_ok s ≡ is_ok r → (P → Q) → OnOk r P → OnOk s Q
ok_mapped (Ok x) (Ok y) same f p = f p
ok_mapped (Ok x) (Err e) same f p = tt
ok_mapped (Err e) (Ok y) same f p = absurd (false≢true (sym same))
ok_mapped (Err e) (Err d) same f p = tt
