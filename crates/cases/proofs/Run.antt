-- Every run of the calls comes to the same. Assumes nothing.
use Rattle.std.proofs.Common.{◌≡◌, ℕ, zero, suc, ◌<◌, ◌≤◌, Bool, true, false, List, [], ◌∷◌, length, get_or, is_some, Some, None, Option, sym, refl, ap, ◌∙◌, inl, inr, arith, length-set, Ok, Err}
use Rattle.std.proofs.lemmas.List.{ext_get_or}
use Rattle.std.proofs.lemmas.Bool.{cases_Bool, both_ways}
use Rattle.row.specs.declared.rows.Row.{Row}
use Rattle.law.specs.Answer.{Answer}
use Rattle.law.specs.declared.calls.Reply.TheVariants.{Block, Turn, Done}
use Rattle.law.specs.declared.calls.Job.{Job}
use Rattle.law.specs.declared.calls.Outcome.{Outcome}
use Rattle.law.specs.declared.calls.Outcome.TheVariants.{Idle}
use Rattle.law.specs.Checks.{count}
use Rattle.law.specs.History.{History, change_of, logged_steps, state_at, job_at, free_at}
use Rattle.law.specs.Rules.{Lawful}
use Rattle.law.specs.State.{Change, admits, opens, reports, nothing, quiet_below, free_after, with_block, back_from}
use Rattle.law.proofs.Basics.{some_is_none}
use Rattle.law.proofs.Blocks.{free_exactly}
use Rattle.law.proofs.Orderly.{orderly, quiet_everywhere}
use Rattle.cases.specs.LineUps.{worked}
use Rattle.cases.specs.Run.{calls, answers, without_block, EveryRun, SomeRun}
use Rattle.cases.proofs.OutlineSteps.{outline_at, answer_at, runs_at, is_outline, is_answer}
use Rattle.cases.proofs.Outlines.{job_without, is_job, quiet_same, outline}
use Rattle.cases.proofs.Replies.{accepted_at, reply_at, lawful}
use Rattle.cases.proofs.Searches.{all_below_lem}

-- the first n values of f, as a list
abbrev table : {X : Type 0} → (ℕ → X) → ℕ → List X
table f zero = []
table f (suc n) = f 0 ∷ table (λ i. f (suc i)) n

get_d_table : {X : Type 0} (f : ℕ → X) (n i : ℕ) (d : X) → i < n → f i ≡ get_or (table f n) i d
get_d_table f zero i d l = absurd (omega arith)
get_d_table f (suc n) zero d l = refl
get_d_table f (suc n) (suc i) d l = get_d_table (λ i. f (suc i)) n i d (omega arith)

done_of : (a : Answer) (o : Outcome) → without_block a ≡ Ok (Done o) → a ≡ Ok (Done o)
done_of (Ok (Block b)) o e = cc
done_of (Ok (Turn t)) o e = cc
done_of (Ok (Done p)) o e = e
done_of (Err f) o e = e

-- a job that is this one without its block
job_of : (o : Option Job) (j : Job) → job_without o ≡ Some j → (b : ℕ) × (o ≡ Some (record { kind = j.kind; arrival = j.arrival; block = b; ticks = j.ticks }))
job_of (Some k) j e =
    let same : record { kind = k.kind; arrival = k.arrival; block = 0; ticks = k.ticks } ≡ j = cc in
    (k.block, λ i. Some (record { kind = (same i).kind; arrival = (same i).arrival; block = k.block; ticks = (same i).ticks }))
job_of None j e = absurd (some_is_none _ j e refl)

-- a session has as many blocks as at opening
length-free : (rows : List Row) (free₀ : List Bool) (h : History) → length (free_at rows free₀ h) ≡ length free₀
length-free rows free₀ [] = refl
length-free rows free₀ (e ∷ h) = by (change_of e) ∙ length-free rows free₀ h
  where
    blocks : List Bool
    blocks = free_at rows free₀ h

    back : (o : Option ℕ) → length (with_block o blocks) ≡ length blocks
    back (Some b) = length-set blocks b true
    back None = refl

    by : (x : Change) → length (free_after rows x (job_at rows h) blocks) ≡ length blocks
    by (admits r k b) = length-set blocks b false
    by (opens t) = refl
    by (reports t f) = back (back_from rows (job_at rows h) f t.work)
    by nothing = refl

-- where no job is unended, the free blocks are those at opening
all_back_lem : (rows : List Row) (number : ℕ) (free₀ : List Bool) (h : History) → Lawful rows number free₀ h → ((r : ℕ) → job_at rows h r ≡ None) → free_at rows free₀ h ≡ free₀
all_back_lem rows number free₀ h l none = ext_get_or false (free_at rows free₀ h) free₀ (length-free rows free₀ h) (λ b below. same b)
  where
    same : (b : ℕ) → get_or (free_at rows free₀ h) b false ≡ get_or free₀ b false
    same b =
        let exactly = free_exactly rows number free₀ h l b in
        elim (cases_Bool (get_or free₀ b false)) [
          | inl was ↦ exactly.1 (was, λ r x. some_is_none _ x.mine x.unended (none r)) ∙ sym was
          | inr not ↦ elim (cases_Bool (get_or (free_at rows free₀ h) b false)) [
            | inl is ↦ absurd (both_ways (get_or free₀ b false) not (exactly.0 is).0)
            | inr is ↦ is ∙ sym not
          ]
        ]

pub every_run_lem : EveryRun
every_run_lem number free₀ log three l = record {
  answered = λ i below. answered i below ∙ get_d_table (answer_at worked number calls) 34 i (Ok (Done Idle)) below;
  at_ten = ap (λ s. s.clock) (at 23 (omega arith));
  at_fourteen = ap (λ s. s.clock) (at 33 (omega arith));
  abnormal = ap (λ s. s.mode) (at 33 (omega arith));
  unended = job_of _ _ (ap (λ s. s.job 2) (at 33 (omega arith)));
  cut = done_of _ _ (answered 33 (omega arith));
  at_fifteen = ap (λ s. s.clock) (at 34 (omega arith));
  normal = ap (λ s. s.mode) (at 34 (omega arith));
  ended = ended;
  all_back = all_back_lem worked number free₀ (logged_steps calls log 34) l ended;
}
  where
    many : length worked ≤ count free₀
    many = omega arith

    runs : (i : ℕ) → i < 34 → runs_at worked number calls i ≡ true
    runs = all_below_lem (runs_at worked number calls) 34 refl

    answered : (i : ℕ) → i < 34 → without_block (get_or log i (Ok (Done Idle))) ≡ answer_at worked number calls i
    answered = is_answer worked number calls free₀ many log 34 runs l

    at : (n : ℕ) → n ≤ 34 → outline (state_at worked free₀ (logged_steps calls log n)) ≡ outline_at worked number calls n
    at = is_outline worked number calls free₀ many log 34 runs l

    quiet : quiet_below (length worked) (job_at worked (logged_steps calls log 34)) ≡ true
    quiet = quiet_same 3 _ (outline_at worked number calls 34).job (λ r. sym (is_job _) ∙ ap (λ s. is_some (s.job r)) (at 34 (omega arith)))

    ended : (r : ℕ) → job_at worked (logged_steps calls log 34) r ≡ None
    ended = quiet_everywhere worked (logged_steps calls log 34) (orderly worked number free₀ (logged_steps calls log 34) l) quiet

pub some-run : SomeRun
some-run = lawful worked 7 blocks calls log 34 (all_below_lem (accepted_at worked 7 blocks calls log) 34 refl) (λ i. get_d_table (reply_at worked 7 blocks calls log) 34 i (Ok (Done Idle)))
  where
    blocks : List Bool
    blocks = true ∷ true ∷ true ∷ []

    log : List Answer
    log = answers 7 0 1 2 0
