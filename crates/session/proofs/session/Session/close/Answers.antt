-- Every history of a session is lawful, so the law holds of it.
use Rattle.std.proofs.Common.{refl}
use Rattle.law.proofs.Law.{sound_throughout}
use Rattle.session.proofs.session.Session.close.Goals as goal

pub returns : goal.returns
returns g c = record { parts = refl; law = λ rows number free₀ h f. sound_throughout rows number free₀ h f.history.lawful }
