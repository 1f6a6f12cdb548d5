-- What the calls do, said of the overlays that the memory holds.
--   emptied        no byte of the overlay that is being sent is kept
--   appended       a command's bytes come behind those of the overlay that is being sent, and nothing else changes
--   ended          the overlay that is being sent is stored behind the others
--   removed        the first overlay with an ID leaves, and every byte of the others stays
--   deleted        the overlay with an ID leaves, or all with ID 0
--   joined         all bytes of the contents, one overlay behind the other
--   Gapless        these are the first bytes of the memory, as many as are kept
--   sent           commands stored one after the other, up to the first that is refused
--   Session        an overlay begins, commands are stored, it ends: then it holds exactly these commands, behind the
--                  overlays that were stored before, and these are as they were
--   Once           no two overlays have one ID
--   OnceLaws       ends and deletions leave it so, and a deleted overlay is not stored any more
--   BeginGrounds   each refusal of a beginning has its ground, and where there is none there is no refusal
--   StoreGrounds   the same of a command to store
--   DeleteGrounds  the same of a deletion
use Rattle.std.specs.Prelude.{◌≡◌, ℕ, ◌+◌, ◌<◌, ◌≤◌, true, cond, ◌⊎◌, List, [], ◌∷◌, ◌++◌, length, take, is_some, None, Ok, Err, Result, ◌==◌, ◌≢◌}
use Rattle.refusal.specs.declared.Refusal.{Refusal}
use Rattle.refusal.specs.declared.Refusal.TheVariants.{IdOutOfRange, AlreadyStored, NotStored, StoreFull}
use Rattle.store.specs.Stores.{Store, kept, answer, Held, held, beginning, storing, closing}
use Rattle.store.specs.Contents.{Overlay, overlay, bytes_in, Contents, content, contents}

abbrev pub emptied : Contents → Contents
emptied c = content c.stored []

abbrev pub appended : List ℕ → Contents → Contents
appended bs c = content c.stored (c.begun ++ bs)

abbrev pub ended : ℕ → Contents → Contents
ended id c = content (c.stored ++ (overlay id c.begun ∷ [])) []

abbrev pub removed : ℕ → List Overlay → List Overlay
removed id [] = []
removed id (o ∷ os) = cond (o.id == id) os (o ∷ removed id os)

abbrev pub deleted : ℕ → Contents → Contents
deleted id c = cond (id == 0) (content [] []) (content (removed id c.stored) c.begun)

abbrev pub stored_bytes : List Overlay → List ℕ
stored_bytes [] = []
stored_bytes (o ∷ os) = o.bytes ++ stored_bytes os

abbrev pub joined : Contents → List ℕ
joined c = stored_bytes c.stored ++ c.begun

abbrev pub Gapless : Type 0
Gapless = (s : Store) (m : List ℕ) → joined (contents m s) ≡ take (kept s) m

-- unless what came before was refused
abbrev pub then_held : Held → (Store → List ℕ → Held) → Held
then_held h more = elim h.result [ Ok x ↦ more h.store h.memory | Err e ↦ h ]

abbrev pub sent : List (List ℕ) → Store → List ℕ → Held
sent [] s m = held s m (Ok tt)
sent (c ∷ cs) s m = then_held (storing c s m) (sent cs)

abbrev pub bytes_of : List (List ℕ) → List ℕ
bytes_of [] = []
bytes_of (c ∷ cs) = c ++ bytes_of cs

abbrev pub Session : Type 0
Session = (id : ℕ) (cs : List (List ℕ)) (s t u : Store) (m n : List ℕ) → beginning id s ≡ answer t (Ok tt) → sent cs t m ≡ held u n (Ok tt) → contents n (closing id u) ≡ content ((contents m s).stored ++ (overlay id (bytes_of cs) ∷ [])) []

abbrev pub Once : List Overlay → Type 0
Once [] = Unit {0}
Once (o ∷ os) = (bytes_in os o.id ≡ None) × Once os

pub record OnceLaws : Type 0 where
  pub ends : (id : ℕ) (c : Contents) → Once c.stored → bytes_in c.stored id ≡ None → Once (ended id c).stored
  pub deletes : (id : ℕ) (c : Contents) → Once c.stored → Once (deleted id c).stored
  pub gone : (id : ℕ) (c : Contents) → Once c.stored → bytes_in (deleted id c).stored id ≡ None
  pub others : (id : ℕ) (c : Contents) (k : ℕ) → (id ≢ 0) → (k ≢ id) → bytes_in (deleted id c).stored k ≡ bytes_in c.stored k

pub record BeginGrounds (id : ℕ) (s : Store) (r : Result (Unit {0}) Refusal) : Type 0 where
  pub range : r ≡ Err IdOutOfRange → (id ≡ 0) ⊎ (127 < id)
  pub stored : r ≡ Err AlreadyStored → (m : List ℕ) → is_some (bytes_in (contents m s).stored id) ≡ true
  pub full : r ≡ Err StoreFull → 64 ≤ length s.entries
  pub free : r ≡ Ok tt → (0 < id) × (id ≤ 127) × ((m : List ℕ) → bytes_in (contents m s).stored id ≡ None) × (length s.entries < 64)

pub record StoreGrounds (bs : List ℕ) (s : Store) (m : List ℕ) (r : Result (Unit {0}) Refusal) : Type 0 where
  pub full : r ≡ Err StoreFull → length m < kept s + length bs
  pub free : r ≡ Ok tt → kept s + length bs ≤ length m

pub record DeleteGrounds (id : ℕ) (s : Store) (r : Result (Unit {0}) Refusal) : Type 0 where
  pub range : r ≡ Err IdOutOfRange → 127 < id
  pub none : r ≡ Err NotStored → (m : List ℕ) → bytes_in (contents m s).stored id ≡ None
  pub free : r ≡ Ok tt → (id ≤ 127) × ((id ≡ 0) ⊎ ((m : List ℕ) → is_some (bytes_in (contents m s).stored id) ≡ true))
