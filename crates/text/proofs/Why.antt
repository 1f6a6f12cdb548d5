-- What is refused is refused for a reason: the reason of one piece of work after another.
use Rattle.std.proofs.Common.{◌≡◌, Bool, true, false, T, ℤ, ◌<ℤ◌, Ok, Err, Result, sym, subst}
use lib.Signed.{lt_z, le_z, lt_z_yes}
use Rattle.std.proofs.lemmas.Int.{by_lt_z}
use Rattle.text.specs.Canvases.{Canvas, Out, done, and_then}
use Rattle.text.proofs.Outs.{by_end}

-- what is told of a refusal satisfies P
abbrev pub Why : {A F : Type 0} → Result A F → (F → Type 0) → Type 0
Why (Ok x) P = Unit {0}
Why (Err f) P = P f

pub why_then : {F : Type 0} (o : Out F) (more : Canvas → Out F) (P : F → Type 0) → Why o.result P → ((t : Canvas) → o ≡ done t → Why (more t).result P) → Why (and_then o more).result P
why_then o more P h g = by_end o more (λ x. Why x.result P) g (λ f e. h)

pub less : (a b : ℤ) → lt_z a b ≡ true → a <ℤ b
less a b e = lt_z_yes (subst T (sym e) tt)

no : {X : Type 0} (t : Bool) → t ≡ false → T t → X
no true e h = absurd (subst T e h)
no false e h = absurd h

pub not_most : (a b : ℤ) → le_z a b ≡ false → b <ℤ a
not_most a b e = by_lt_z b a (λ lt. lt) (λ le. no (le_z a b) e le.le)

pub weaker : {A F : Type 0} (r : Result A F) (P Q : F → Type 0) → ((f : F) → P f → Q f) → Why r P → Why r Q
weaker (Ok x) P Q g h = tt
weaker (Err f) P Q g h = g f h
