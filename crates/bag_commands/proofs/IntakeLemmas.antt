-- Lines of answers, one at a time, and runs, one at a time.
use Rattle.std.proofs.Common.{◌≡◌, ◌<◌, ◌+◌, ◌++◌, ◌∷◌, ◌∙◌, ℕ, List, [], Err, IfOk, Ok, OnErr, OnOk, Option, None, Result, Some, ap, false, is_ok, true, append_assoc, append-nil, codes, get_or, length, map, max, refl, subst, sym, take, arith}
use Rattle.std.specs.List.{zip}
use Rattle.std.proofs.lemmas.List.{length-take-le, map-append, take_more}
use Rattle.bag_receiver.specs.declared.answer.Answer.{Answer}
use Rattle.std.specs.Io.Buffered.{writer_contents}
use Rattle.std.specs.Result.{result_and}
use Rattle.std.specs.Io.KnownBytes.{Appends}
use Rattle.bag_path.specs.Lines.{written_lines}
use Rattle.bag_path.specs.Octets.{lf}
use Rattle.std.proofs.lemmas.Grind.{flat_map-append, fold-append}
use Rattle.bag_commands.specs.declared.output.Output.{Output}
use Rattle.bag_commands.specs.Outputs.{WroteLines}
use Rattle.bag_commands.specs.AnswerTexts.{answer_text}
use Rattle.bag_commands.specs.IntakeTexts.{Told, answer_lines, greatest, intake_lines, intake_status, run_lines, run_status}
use Rattle.bag_commands.specs.declared.status.TheConstants.{DONE}
use Rattle.bag_digest.specs.Failures.{Rises}
use Rattle.bag_digest.specs.declared.source.Failed.{Failed}

zip_push : {A B : Type 0} (xs : List A) (ys : List B) (x : A) (y : B) → length xs ≡ length ys → zip (xs ++ x ∷ []) (ys ++ y ∷ []) ≡ zip xs ys ++ (x, y) ∷ []
zip_push [] [] x y same = refl
zip_push [] (b ∷ ys) x y same = absurd (omega (arith, same))
zip_push (a ∷ xs) [] x y same = absurd (omega (arith, same))
zip_push (a ∷ xs) (b ∷ ys) x y same = ap (λ rest. (a, b) ∷ rest) (zip_push xs ys x y (omega (arith, same)))

answer_push : (paths : List (List ℕ)) (answers : List Answer) (path : List ℕ) (answer : Answer) → length paths ≡ length answers
    → answer_lines (paths ++ path ∷ []) (answers ++ answer ∷ []) ≡ answer_lines paths answers ++ answer_text path answer ∷ []
answer_push paths answers path answer same =
    ap (map (λ (told : List ℕ × Answer). answer_text told.0 told.1)) (zip_push paths answers path answer same)
    ∙ map-append (λ (told : List ℕ × Answer). answer_text told.0 told.1) (zip paths answers) ((path, answer) ∷ [])

-- and the line of the answer at the next index
pub answers_more : (paths : List (List ℕ)) (answers : List Answer) (n : ℕ) (path : List ℕ) (fill : Answer) → n < length paths → length paths ≡ length answers → path ≡ get_or paths n path
    → answer_lines (take (n + 1) paths) (take (n + 1) answers) ≡ answer_lines (take n paths) (take n answers) ++ answer_text path (get_or answers n fill) ∷ []
answers_more paths answers n path fill inside same path_is =
    let here : n < length answers = omega (arith, inside, same) in
    let longer : take (n + 1) paths ≡ take n paths ++ path ∷ [] = take_more paths n path inside ∙ ap (λ p. take n paths ++ p ∷ []) (sym path_is) in
    let more : take (n + 1) answers ≡ take n answers ++ get_or answers n fill ∷ [] = take_more answers n fill here in
    let lengths : length (take n paths) ≡ length (take n answers) = length-take-le n paths (omega (arith, inside)) ∙ sym (length-take-le n answers (omega (arith, here))) in
    (λ t. answer_lines (longer t) (more t)) ∙ answer_push (take n paths) (take n answers) path (get_or answers n fill) lengths

appends_on : (old now new : Option (List ℕ)) (first second : List ℕ) → Appends old now first → Appends now new second → Appends old new (first ++ second)
appends_on None now new first second h k = tt
appends_on (Some xs) None new first second h k = absurd h
appends_on (Some xs) (Some ys) None first second h k = absurd k
appends_on (Some xs) (Some ys) (Some zs) first second h k = k ∙ ap (λ octets. octets ++ second) h ∙ append_assoc xs first second

appends_nothing : (held : Option (List ℕ)) → Appends held held []
appends_nothing None = tt
appends_nothing (Some octets) = sym (append-nil octets)

-- no line was written
pub wrote_nothing : {W : Type 0} (contents : W → Option (List ℕ)) (out : Output W) → WroteLines contents out out []
wrote_nothing contents out = record { octets = appends_nothing (writer_contents contents out.writer); failures = refl }

-- more lines were written
pub wrote_more : {W : Type 0} (contents : W → Option (List ℕ)) (old now new : Output W) (lines more : List (List ℕ)) → WroteLines contents old now lines → WroteLines contents now new more
    → WroteLines contents old new (lines ++ more)
wrote_more contents old now new lines more first second = record {
  octets = subst (Appends (writer_contents contents old.writer) (writer_contents contents new.writer)) (sym (flat_map-append (λ (text : List ℕ). text ++ lf ∷ []) lines more))
      (appends_on (writer_contents contents old.writer) (writer_contents contents now.writer) (writer_contents contents new.writer) (written_lines lines) (written_lines more) first.octets second.octets);
  failures = second.failures ∙ first.failures;
}

-- and one more line
pub wrote_line : {W : Type 0} (contents : W → Option (List ℕ)) (old now new : Output W) (lines : List (List ℕ)) (line : List ℕ) → WroteLines contents old now lines
    → Appends (writer_contents contents now.writer) (writer_contents contents new.writer) (line ++ codes "\n") → new.failures ≡ now.failures
    → WroteLines contents old new (lines ++ line ∷ [])
wrote_line contents old now new lines line before appended same =
    let one : WroteLines contents now new (line ∷ []) = record {
      octets = subst (Appends (writer_contents contents now.writer) (writer_contents contents new.writer)) (sym (append-nil (line ++ codes "\n"))) appended;
      failures = same;
    } in
    wrote_more contents old now new lines (line ∷ []) before one

-- RUNS

pub status_more : (told : List Told) (one : Told) → intake_status (told ++ one ∷ []) ≡ max (intake_status told) (run_status one)
status_more told one = ap greatest (map-append run_status told (one ∷ [])) ∙ fold-append max DONE (map run_status told) (run_status one ∷ [])

lines_more : (told : List Told) (one : Told) → intake_lines (told ++ one ∷ []) ≡ intake_lines told ++ run_lines one
lines_more told one = flat_map-append run_lines told (one ∷ []) ∙ ap (λ lines. intake_lines told ++ lines) (append-nil (run_lines one))

-- the lines of a run were written, or a write failed
pub wrote_run : {W : Type 0} (contents : W → Option (List ℕ)) (old now new : Output W) (told : List Told) (one : Told) (written : Result (Unit {0}) Failed) → WroteLines contents old now (intake_lines told)
    → OnOk written (WroteLines contents now new (run_lines one)) → OnErr written (Rises now.failures new.failures)
    → OnOk written (WroteLines contents old new (intake_lines (told ++ one ∷ []))) × OnErr written (Rises old.failures new.failures)
wrote_run contents old now new told one (Ok done) before wrote failed =
    (subst (WroteLines contents old new) (sym (lines_more told one)) (wrote_more contents old now new (intake_lines told) (run_lines one) before wrote), tt)
wrote_run contents old now new told one (Err fault) before wrote failed = (tt, subst (λ n. Rises n new.failures) before.failures failed)

-- more was written, if no write had failed
pub wrote_on : {W : Type 0} (contents : W → Option (List ℕ)) (old now new : Output W) (told : List Told) (one : Told) (before written : Result (Unit {0}) Failed) → is_ok before ≡ true
    → OnOk before (WroteLines contents old now (intake_lines told)) → OnOk written (WroteLines contents now new (run_lines one)) → OnErr written (Rises now.failures new.failures)
    → OnOk written (WroteLines contents old new (intake_lines (told ++ one ∷ []))) × OnErr written (Rises old.failures new.failures)
wrote_on contents old now new told one (Ok done) written ok before wrote failed = wrote_run contents old now new told one written before wrote failed
wrote_on contents old now new told one (Err fault) written ok before wrote failed = absurd (cc ok)

-- and nothing more, if one had
pub wrote_no_more : {W : Type 0} (contents : W → Option (List ℕ)) (old now : Output W) (told : List Told) (before : Result (Unit {0}) Failed) → is_ok before ≡ false
    → OnErr before (Rises old.failures now.failures) → OnOk before (WroteLines contents old now (intake_lines told)) × OnErr before (Rises old.failures now.failures)
wrote_no_more contents old now told (Ok done) ok failed = absurd (cc ok)
wrote_no_more contents old now told (Err fault) ok failed = (tt, failed)

answered_so : {W : Type 0} (contents : W → Option (List ℕ)) (old new : Output W) (told : List Told) (written : Result (Unit {0}) Failed) (status : ℕ) → status ≡ intake_status told
    → OnOk written (WroteLines contents old new (intake_lines told)) → OnErr written (Rises old.failures new.failures)
    → IfOk (result_and written (Ok status)) (λ n. n ≡ intake_status told) × OnOk (result_and written (Ok status)) (WroteLines contents old new (intake_lines told))
    × OnErr (result_and written (Ok status)) (Rises old.failures new.failures)
answered_so contents old new told (Ok done) status is wrote failed = (is, wrote, tt)
answered_so contents old new told (Err fault) status is wrote failed = (tt, tt, failed)

-- the status is returned if everything was written
pub answered : {W : Type 0} (contents : W → Option (List ℕ)) (old new : Output W) (told : List Told) (written : Result (Unit {0}) Failed) (status : ℕ) (result : Result ℕ Failed)
    → result ≡ result_and written (Ok status) → status ≡ intake_status told
    → OnOk written (WroteLines contents old new (intake_lines told)) × OnErr written (Rises old.failures new.failures)
    → IfOk result (λ n. n ≡ intake_status told) × OnOk result (WroteLines contents old new (intake_lines told)) × OnErr result (Rises old.failures new.failures)
answered contents old new told written status result is status_is wrote =
    subst (λ (r : Result ℕ Failed). IfOk r (λ n. n ≡ intake_status told) × OnOk r (WroteLines contents old new (intake_lines told)) × OnErr r (Rises old.failures new.failures)) (sym is)
    (answered_so contents old new told written status status_is wrote.0 wrote.1)
