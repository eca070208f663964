-- On an accepted plan no arrival is ever refused because the row's last job has not ended. Assumes nothing.
use Rattle.std.proofs.Common.{◌≡◌, ℕ, ◌+◌, ◌<◌, ◌≤◌, Bool, true, false, ltb, List, length, get_or, take, Some, None, Option, ap, subst, inl, inr, arith}
use Rattle.std.proofs.lemmas.Bool.{cases_Bool, ltb-true, ltb-false, not-false}
use Rattle.row.specs.Faults.{number_of}
use Rattle.row.specs.Rows.{period_of, is_track}
use Rattle.row.specs.declared.faults.Fault.{Fault}
use Rattle.row.specs.declared.faults.Refusal.TheVariants.{JobNotEnded}
use Rattle.row.specs.declared.rows.Kind.{Kind}
use Rattle.row.specs.declared.rows.Kind.TheVariants.{Normal, Abnormal}
use Rattle.row.specs.declared.rows.Row.{Row}
use Rattle.row.specs.declared.rows.Row.TheVariants.{Track, Helper}
use Rattle.row.proofs.Limits.{limits}
use Rattle.judge.specs.Accepted.{Accepted, Passes, LatePasses}
use Rattle.judge.specs.declared.bounds.Bounds.{Bounds}
use Rattle.judge.specs.declared.bounds.LateBounds.{LateBounds}
use Rattle.law.specs.declared.calls.Call.TheVariants.{Arrive}
use Rattle.law.specs.declared.calls.Job.{Job}
use Rattle.law.specs.Checks.{Check, checks, first_fault}
use Rattle.law.specs.History.{History, state_at, clock_at, job_at, ready_at, mode_at, disturbed}
use Rattle.law.specs.Law.{TrackBound}
use Rattle.law.specs.Rules.{Lawful}
use Rattle.law.specs.State.{row_at, least_row}
use Rattle.law.proofs.Basics.{some_of, helper_only, clash}
use Rattle.law.proofs.Checks.{applies_at, First, first-applies}
use Rattle.law.proofs.Orderly.{orderly}
use Rattle.law.proofs.Timely.{no_late-track, no_late-helper}

-- a track that passes has the bound of either kind of job, within its period
bound_of : (above : List Row) (r : Row) (b : Bounds) → Passes above r b → is_track r ≡ true → (k : Kind) → (m : ℕ) × TrackBound above r k m × (m ≤ period_of r)
bound_of above (Track t) b p track k = by b.late p.late k
  where
    by : (o : Option LateBounds) → LatePasses above (Track t) o → (k : Kind) → (m : ℕ) × TrackBound above (Track t) k m × (m ≤ t.period)
    by (Some l) q Normal = (l.mixed, q.0, omega (arith, q.1, limits (Track t)))
    by (Some l) q Abnormal = (l.long, q.2, omega (arith, q.3, limits (Track t)))
    by None q k = absurd q
bound_of above (Helper t) b p track k = absurd cc

module _ (rows : List Row) (bounds : List Bounds) (accepted : Accepted rows bounds) (number : ℕ) (free₀ : List Bool) (h : History)
    (l : Lawful rows number free₀ h) where
  pub no_overrun : (r : ℕ) (k : Kind) (f : Fault) → first_fault (checks rows (state_at rows free₀ h) (Arrive r k)) ≡ Some f → f.refusal ≡ JobNotEnded → ⊥
  no_overrun r k f e nineteen = elim (cases_Bool (is_track (row_at rows r))) [
    | inl track ↦
        let m = bound_of (take r rows) (row_at rows r) (get_or bounds r none) passes track j.kind in
        no_late-track rows number free₀ h l (record {
          row = r;
          track = track;
          mine = j;
          unended = unended;
          bound = m.0;
          is_bound = m.1;
          late = omega (arith, again, m.2);
        })
    | inr helper ↦
        no_late-helper rows number free₀ h l (record {
          row = r;
          helper = helper;
          mine = j;
          unended = unended;
          undisturbed = calm helper;
          bound = (get_or bounds r none).normal;
          is_bound = passes.normal;
          late = omega (arith, again, passes.in_time, limits (row_at rows r));
        })
  ]
    where
      all : List Check
      all = checks rows (state_at rows free₀ h) (Arrive r k)

      first : First 0 all f
      first = first-applies 0 all f (omega arith) e

      number_is : number_of f.refusal ≡ 19
      number_is = ap number_of nineteen

      here : r < length rows
      here = ltb-true r (length rows) (not-false (ltb r (length rows)) (first.before 15 (omega (arith, number_is))))

      found : (j : Job) × (job_at rows h r ≡ Some j)
      found = some_of (job_at rows h r) (subst (λ n. applies_at n all ≡ true) number_is first.this)

      j : Job
      j = found.0

      unended : job_at rows h r ≡ Some j
      unended = found.1

      none : Bounds
      none = record { normal = 0; late = None }

      passes : Passes (take r rows) (row_at rows r) (get_or bounds r none)
      passes = accepted.each r here least_row none

      again : j.arrival + period_of (row_at rows r) ≤ clock_at h
      again = omega (arith, ltb-false (clock_at h) (ready_at rows h r) (first.before 17 (omega (arith, number_is))), (orderly rows number free₀ h l).spacing r j unended)

      calm : is_track (row_at rows r) ≡ false → disturbed h r ≡ false
      calm helper = elim (cases_Bool (disturbed h r)) [
        | inl d ↦
            let normal = helper_only (row_at rows r) (mode_at rows h) (first.before 18 (omega (arith, number_is))) helper in
            absurd (clash (mode_at rows h) normal ((orderly rows number free₀ h l).disturbs r j unended d))
        | inr d ↦ d
      ]
