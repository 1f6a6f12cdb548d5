-- Characters, one after the other.
use Rattle.std.proofs.Common.{◌≡◌, ℕ, ◌+◌, ◌<◌, ◌≤◌, List, [], ◌∷◌, ◌++◌, length, get_or, drop, sym, ◌∙◌, append_assoc, append-nil}
use Rattle.std.proofs.lemmas.List.{at_drop_more, at_drop_all}
use Rattle.compose.specs.Ebcdic.{ebcdic_of}
use Rattle.compose.specs.Texts.{characters}

pub went_on : (cs had had' end : List ℕ) (k : ℕ) → k < length cs → had' ≡ had ++ ebcdic_of (get_or cs k 0) ∷ [] → had ++ characters (drop k cs) ≡ end → had' ++ characters (drop (k + 1) cs) ≡ end
went_on cs had had' end k h more inv = rw more (simp append_assoc (sym (at_drop_more (λ l. had ++ characters l) cs k 0 h) ∙ inv))

pub ended : (cs had end : List ℕ) (k : ℕ) → length cs ≤ k → had ++ characters (drop k cs) ≡ end → had ≡ end
ended cs had end k h inv = sym (append-nil had) ∙ sym (at_drop_all (λ l. had ++ characters l) cs k h) ∙ inv
