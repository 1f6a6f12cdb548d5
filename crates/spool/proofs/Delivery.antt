-- Turns in a row bring all that is owed into the bin.
use Rattle.std.proofs.Common.{◌≡◌, ℕ, zero, suc, ◌+◌, ◌<◌, ◌≤◌, Bool, true, false, cond, ◌⊎◌, List, [], ◌∷◌, ◌++◌, length, sym, refl, ap, ◌∙◌, inl, inr, append_assoc, append-nil, add-one, arith, length-append}
use Rattle.std.proofs.lemmas.Bool.{ltb-false}
use Rattle.std.proofs.lemmas.List.{nil_from_length}
use Rattle.engine.specs.declared.sheet.Sheet.{Sheet}
use Rattle.engine.specs.Engines.{Paper, paper, put, taken}
use Rattle.spool.specs.Flows.{Flow, flow, feed, turns, owed}

-- a feed loses nothing, and leaves the path empty only where nothing waits
record Live (p : Paper) (ws : List Sheet) (c : Flow) : Type 0 where
  bin : c.paper.bin ≡ p.bin
  room : c.paper.room ≡ p.room
  same : c.paper.path ++ c.waiting ≡ p.path ++ ws
  live : (0 < length c.paper.path) ⊎ (c.waiting ≡ [])

feeds : (K : ℕ) → 0 < K → (p : Paper) (ws : List Sheet) → Live p ws (feed K ws p)
feeds K k p [] = record { bin = refl; room = refl; same = refl; live = inr refl }
feeds K k p (w ∷ ws) = go (taken K p) refl
  where
    go : (b : Bool) → taken K p ≡ b → Live p (w ∷ ws) (cond b (flow (put w p) ws) (flow p (w ∷ ws)))
    go true e = record {
      bin = refl;
      room = refl;
      same = append_assoc p.path (w ∷ []) ws;
      live = inl (simp length-append (omega arith));
    }
    go false e = record { bin = refl; room = refl; same = refl; live = inl (omega (arith, ltb-false (length p.path) K e)) }

drained : (n K : ℕ) → 0 < K → (path bin : List Sheet) (room : ℕ) (ws : List Sheet) → (0 < length path) ⊎ (ws ≡ []) → length (path ++ ws) ≤ n → length (path ++ ws) ≤ room → (turns n K (flow (paper path bin room) ws)).paper.bin ≡ bin ++ (path ++ ws)
drained zero K k path bin room ws live less fits = sym (append-nil bin) ∙ ap (λ l. bin ++ l) (sym (nil_from_length (path ++ ws) (omega arith)))
drained (suc n) K k [] bin room [] live less fits = drained n K k [] bin room [] (inr refl) (omega arith) (omega arith)
drained (suc n) K k [] bin room (w ∷ ws) (inl h) less fits = absurd (omega arith)
drained (suc n) K k [] bin room (w ∷ ws) (inr e) less fits = cc
drained (suc n) K k (s ∷ ss) bin zero ws live less fits = absurd (omega arith)
drained (suc n) K k (s ∷ ss) bin (suc r) ws live less fits =
    let p = paper ss (bin ++ (s ∷ [])) r in
    let f = feeds K k p ws in
    let c = feed K ws p in
    let l : length (c.paper.path ++ c.waiting) ≡ length (ss ++ ws) = ap length f.same in
    let r' : c.paper.room ≡ r = f.room in
    drained n K k c.paper.path c.paper.bin c.paper.room c.waiting f.live (omega arith) (omega arith) ∙ ap (λ x. x ++ (c.paper.path ++ c.waiting)) f.bin ∙ ap (λ x. (bin ++ (s ∷ [])) ++ x) f.same ∙ append_assoc bin (s ∷ []) (ss ++ ws)

-- an empty path takes one turn more to begin with
delivers_at : (K : ℕ) → 0 < K → (path bin : List Sheet) (room : ℕ) (ws : List Sheet) → length (path ++ ws) ≤ room → (turns (suc (length (path ++ ws))) K (flow (paper path bin room) ws)).paper.bin ≡ bin ++ (path ++ ws)
delivers_at K k [] bin room ws fits =
    let p = paper [] bin room in
    let f = feeds K k p ws in
    let c = feed K ws p in
    let l : length (c.paper.path ++ c.waiting) ≡ length ws = ap length f.same in
    let r : c.paper.room ≡ room = f.room in
    drained (length ws) K k c.paper.path c.paper.bin c.paper.room c.waiting f.live (omega arith) (omega arith) ∙ ap (λ x. x ++ (c.paper.path ++ c.waiting)) f.bin ∙ ap (λ x. bin ++ x) f.same
delivers_at K k (s ∷ ss) bin room ws fits = drained (suc (length (s ∷ ss ++ ws))) K k (s ∷ ss) bin room ws (inl (omega arith)) (omega arith) fits

pub delivers : (K : ℕ) → 0 < K → (f : Flow) → owed f ≤ f.paper.room → (turns (owed f + 1) K f).paper.bin ≡ f.paper.bin ++ (f.paper.path ++ f.waiting)
delivers K k f fits = rw add-one (delivers_at K k f.paper.path f.paper.bin f.paper.room f.waiting fits)
