-- Characters in a row, one after another.
use Rattle.std.proofs.Common.{◌≡◌, ℕ, ◌+◌, ◌<◌, ◌≤◌, List, [], ◌∷◌, length, get_or, drop, Ok, Err, Result, sym, refl, ap, ◌∙◌, add_assoc}
use Rattle.std.proofs.lemmas.List.{at_drop_more, at_drop_all}
use Rattle.refusal.specs.declared.Refusal.{Refusal}
use Rattle.text.specs.declared.fault.TextFault.{TextFault}
use Rattle.text.specs.Canvases.{Canvas, Out, out, done, and_then}
use Rattle.text.specs.Steps.{character}
use Rattle.text.specs.Runs.{located_in, located, characters, run}

-- what is left of a run at the character k
at_run : (cs : List ℕ) (at k : ℕ) (s : Canvas) (o : Out Refusal) → k < length cs → o ≡ character (get_or cs k 0) s → and_then (located (at + k) o) (run (at + k + 1) (drop (k + 1) cs)) ≡ run (at + k) (drop k cs) s
unfolding run
at_run cs at k s o h e =
    ap (λ o. and_then (located (at + k) o) (run (at + k + 1) (drop (k + 1) cs))) e ∙ sym (at_drop_more (λ l. run (at + k) l s) cs k 0 h)

-- the same with the refusal q of the character told at its offset
pub run_on : (cs : List ℕ) (at k : ℕ) (s s' : Canvas) (r : Result (Unit {0}) Refusal) (q : Result (Unit {0}) TextFault) (end : Out TextFault) → k < length cs → out s' r ≡ character (get_or cs k 0) s → q ≡ located_in (at + k) r → q ≡ Ok tt → run (at + k) (drop k cs) s ≡ end → run (at + (k + 1)) (drop (k + 1) cs) s' ≡ end
run_on cs at k s s' r q end h e is was inv =
    ap (λ n. run n (drop (k + 1) cs) s') (sym (add_assoc at k 1))
    ∙ ap (λ q. and_then (out s' q) (run (at + k + 1) (drop (k + 1) cs))) (sym was ∙ is) ∙ at_run cs at k s _ h e ∙ inv

pub run_off : (cs : List ℕ) (at k : ℕ) (s s' : Canvas) (r : Result (Unit {0}) Refusal) (q : Result (Unit {0}) TextFault) (g : TextFault) (end : Out TextFault) → k < length cs → out s' r ≡ character (get_or cs k 0) s → q ≡ located_in (at + k) r → q ≡ Err g → run (at + k) (drop k cs) s ≡ end → out s' (Err g) ≡ end
run_off cs at k s s' r q g end h e is was inv =
    ap (λ q. and_then (out s' q) (run (at + k + 1) (drop (k + 1) cs))) (sym was ∙ is) ∙ at_run cs at k s _ h e ∙ inv

pub run_end : (cs : List ℕ) (at k : ℕ) (s : Canvas) (end : Out TextFault) → length cs ≤ k → run at (drop k cs) s ≡ end → done s ≡ end
unfolding run
run_end cs at k s end h inv = sym (at_drop_all (λ l. run at l s) cs k h) ∙ inv

-- the same for the characters of a control
at_characters : (cs : List ℕ) (k : ℕ) (s : Canvas) (o : Out Refusal) → k < length cs → o ≡ character (get_or cs k 0) s → and_then o (characters (drop (k + 1) cs)) ≡ characters (drop k cs) s
unfolding characters
at_characters cs k s o h e = ap (λ o. and_then o (characters (drop (k + 1) cs))) e ∙ sym (at_drop_more (λ l. characters l s) cs k 0 h)

pub characters_on : (cs : List ℕ) (k : ℕ) (s s' : Canvas) (r : Result (Unit {0}) Refusal) (end : Out Refusal) → k < length cs → out s' r ≡ character (get_or cs k 0) s → r ≡ Ok tt → characters (drop k cs) s ≡ end → characters (drop (k + 1) cs) s' ≡ end
characters_on cs k s s' r end h e was inv = ap (λ q. and_then (out s' q) (characters (drop (k + 1) cs))) (sym was) ∙ at_characters cs k s _ h e ∙ inv

pub characters_off : (cs : List ℕ) (k : ℕ) (s s' : Canvas) (r : Result (Unit {0}) Refusal) (f : Refusal) (end : Out Refusal) → k < length cs → out s' r ≡ character (get_or cs k 0) s → r ≡ Err f → characters (drop k cs) s ≡ end → out s' (Err f) ≡ end
characters_off cs k s s' r f end h e was inv = ap (λ q. and_then (out s' q) (characters (drop (k + 1) cs))) (sym was) ∙ at_characters cs k s _ h e ∙ inv

pub characters_end : (cs : List ℕ) (k : ℕ) (s : Canvas) (end : Out Refusal) → length cs ≤ k → characters (drop k cs) s ≡ end → done s ≡ end
unfolding characters
characters_end cs k s end h inv = sym (at_drop_all (λ l. characters l s) cs k h) ∙ inv

-- a run whose offsets are dropped
abbrev pub unlocated_in : Result (Unit {0}) TextFault → Result (Unit {0}) Refusal
unlocated_in (Ok x) = Ok x
unlocated_in (Err f) = Err f.refusal

abbrev pub unlocated : Out TextFault → Out Refusal
unlocated o = out o.left (unlocated_in o.result)

unlocated_then : (at : ℕ) (s : Canvas) (r : Result (Unit {0}) Refusal) (more : Canvas → Out TextFault) (more' : Canvas → Out Refusal) → ((s : Canvas) → unlocated (more s) ≡ more' s) → unlocated (and_then (located at (out s r)) more) ≡ and_then (out s r) more'
unlocated_then at s (Ok x) more more' h = h s
unlocated_then at s (Err f) more more' h = refl

pub unlocated_run : (at : ℕ) (cs : List ℕ) (s : Canvas) → unlocated (run at cs s) ≡ characters cs s
unfolding run characters
unlocated_run at [] s = refl
unlocated_run at (c ∷ cs) s = unlocated_then at (character c s).left (character c s).result (run (at + 1) cs) (characters cs) (unlocated_run (at + 1) cs)

pub run_unlocated : (at : ℕ) (cs : List ℕ) (s s' : Canvas) (r : Result (Unit {0}) TextFault) (q : Result (Unit {0}) Refusal) → out s' r ≡ run at cs s → q ≡ unlocated_in r → out s' q ≡ characters cs s
run_unlocated at cs s s' r q did e = ap (out s') e ∙ ap unlocated did ∙ unlocated_run at cs s
