-- One piece of work after another.
use Rattle.std.proofs.Common.{◌≡◌, Ok, Err, Result, refl}
use Rattle.std.specs.Result.{IsErrAnd}
use Rattle.std.proofs.lemmas.Result.{err_from_is_err_and}
use Rattle.text.specs.Canvases.{Canvas, Out, out, done, and_then}

then_assoc_at : {F : Type 0} (s : Canvas) (r : Result (Unit {0}) F) (f g h : Canvas → Out F) → ((t : Canvas) → f t ≡ and_then (g t) h) → and_then (out s r) f ≡ and_then (and_then (out s r) g) h
then_assoc_at s (Ok x) f g h e = e s
then_assoc_at s (Err x) f g h e = refl

-- after a piece of work, what is one piece for another way to be done
pub then_assoc : {F : Type 0} (o : Out F) (f g h : Canvas → Out F) → ((t : Canvas) → f t ≡ and_then (g t) h) → and_then o f ≡ and_then (and_then o g) h
then_assoc o f g h e = then_assoc_at o.left o.result f g h e

-- what further work is, by how the work before it ended
by_end_at : {F : Type 0} (s : Canvas) (r : Result (Unit {0}) F) (more : Canvas → Out F) (P : Out F → Type 0) → ((t : Canvas) → out s r ≡ done t → P (more t)) → ((f : F) → r ≡ Err f → P (out s r)) → P (and_then (out s r) more)
by_end_at s (Ok x) more P ok err = ok s refl
by_end_at s (Err f) more P ok err = err f refl

pub by_end : {F : Type 0} (o : Out F) (more : Canvas → Out F) (P : Out F → Type 0) → ((t : Canvas) → o ≡ done t → P (more t)) → ((f : F) → o.result ≡ Err f → P o) → P (and_then o more)
by_end o more P ok err = by_end_at o.left o.result more P ok err

-- an error that is handed on is the one that was met
pub handed_on : {T F : Type 0} {f : F} (r : Result T F) → IsErrAnd r (λ y. y ≡ f) → r ≡ Err f
handed_on r h = let p = err_from_is_err_and r h in rw (p.1, p.2) refl
