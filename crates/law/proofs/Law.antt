-- The proof of the law. Assumes nothing.
use Rattle.std.proofs.Common.{ℕ, Bool, List, [], ◌∷◌, subst₂}
use Rattle.row.specs.declared.rows.Row.{Row}
use Rattle.law.specs.History.{History}
use Rattle.law.specs.Law.{Sound, Starved, Throughout, TheLaw}
use Rattle.law.specs.Rules.{Lawful}
use Rattle.law.proofs.Blocks.{none_shared, none_strayed, none_starved}
use Rattle.law.proofs.Steps.{Step, step, refused_by}
use Rattle.law.proofs.Timely.{no_late-track, no_late-helper}

module _ (rows : List Row) (number : ℕ) (free₀ : List Bool) where
  enough : (h : History) → Lawful rows number free₀ h → Starved rows free₀ h → ⊥
  enough [] l starved = starved
  enough (e ∷ h) l (r, k, f, call, answer, twenty, many) =
      none_starved rows number free₀ h l.0 r k f
      (refused_by (subst₂ (Step rows number free₀ h) call answer (step rows number free₀ h e.call e.answer l.1))) twenty many

  -- every lawful history is sound at its end
  pub sound : (h : History) → Lawful rows number free₀ h → Sound rows free₀ h
  sound h l = record {
    tracks = no_late-track rows number free₀ h l;
    helpers = no_late-helper rows number free₀ h l;
    apart = none_shared rows number free₀ h l;
    kept = none_strayed rows number free₀ h l;
    enough = enough h l;
  }

  -- and so at every point before, since what came before is lawful too
  pub sound_throughout : (h : History) → Lawful rows number free₀ h → Throughout (Sound rows free₀) h
  sound_throughout [] l = sound [] l
  sound_throughout (e ∷ h) l = (sound (e ∷ h) l, sound_throughout h l.0)

pub the_law : TheLaw
the_law rows bounds accepted number free₀ h l = sound_throughout rows number free₀ h l
