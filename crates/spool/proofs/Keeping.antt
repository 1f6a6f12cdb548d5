-- Each operation keeps what holds of every spool.
use Rattle.std.proofs.Common.{◌≡◌, ℕ, zero, suc, ◌+◌, ◌-◌, ◌*◌, ◌<◌, ◌≤◌, Bool, true, false, cond, eqb, ltb, List, [], ◌∷◌, ◌++◌, length, take, slice_get, Some, None, sym, refl, ap, ◌∙◌, subst, arith, length-append}
use Rattle.std.proofs.lemmas.Bool.{eqb-false, ltb-true, ltb-false, both_ways}
use Rattle.std.proofs.lemmas.List.Sums.{sum_by-cons}
use Rattle.engine.specs.declared.sheet.Sheet.{Sheet}
use Rattle.engine.specs.Sheets.{Pair, pair, after, onward}
use Rattle.engine.specs.Tallies.{plus_of}
use Rattle.engine.proofs.Tallying.{after_last, onward_append, onward_pages}
use Rattle.engine.proofs.Counting.{plus_fits, fits_is}
use Rattle.spool.specs.declared.page.WaitingPage.{WaitingPage}
use Rattle.spool.specs.declared.page.NotReceived.TheVariants.{SixteenWait, PagesSpent, CopiesSpent}
use Rattle.spool.specs.Spooled.{Spooled, waiting_page, next_sheet, free, fed_pages, commit_at, commit, stack_at, stack, unfed_in, full, refusal_of, receive}
use Rattle.spool.specs.Kept.{Unfed, first_copies, Small, Kept}

-- one more page
unfed_more : (ws : List WaitingPage) (w : WaitingPage) → Unfed ws → 0 < w.unfed → Unfed (ws ++ (w ∷ []))
unfed_more [] w h pos = (pos, tt)
unfed_more (x ∷ ws) w h pos = (h.0, unfed_more ws w h.1 pos)

small_more : (ws : List WaitingPage) (w : WaitingPage) → Small ws → w.unfed ≤ 255 → Small (ws ++ (w ∷ []))
small_more [] w h le = (le, tt)
small_more (x ∷ ws) w h le = (h.0, small_more ws w h.1 le)

first_more : (ws : List WaitingPage) (c : ℕ) (w : WaitingPage) → first_copies c ws ≤ 255 → (length ws ≡ 0 → c + w.unfed ≤ 255) → first_copies c (ws ++ (w ∷ [])) ≤ 255
first_more [] c w h z = z refl
first_more (x ∷ ws) c w h z = h

-- no refusal: what it rules out
record Place (n : ℕ) (b : Spooled) : Type 0 where
  space : length b.waiting ≡ 16 → ⊥
  some : b.received ≡ 65535 → ⊥
  level : b.received ≡ b.committed.pages → b.committed.copies + n ≤ 255

not_refused : (n : ℕ) (b : Spooled) → refusal_of n b ≡ None → Place n b
not_refused n b e = go (full b) (eqb b.received 65535) (eqb b.received b.committed.pages) (ltb 255 (b.committed.copies + n)) refl refl refl refl e
  where
    go : (f s l m : Bool) → full b ≡ f → eqb b.received 65535 ≡ s → eqb b.received b.committed.pages ≡ l → ltb 255 (b.committed.copies + n) ≡ m → cond f (Some SixteenWait) (cond s (Some PagesSpent) (cond l (cond m (Some CopiesSpent) None) None)) ≡ None → Place n b
    go true s l m ef es el em e = cc
    go false true l m ef es el em e = cc
    go false false true true ef es el em e = cc
    go false false true false ef es el em e = record { space = eqb-false _ _ ef; some = eqb-false _ _ es; level = λ z. ltb-false _ _ em }
    go false false false m ef es el em e = record { space = eqb-false _ _ ef; some = eqb-false _ _ es; level = λ z. absurd (eqb-false _ _ el z) }

pub kept_receive : (b c : Spooled) (id n : ℕ) → Kept b → 0 < n → n ≤ 255 → refusal_of n b ≡ None → c ≡ receive id n b → Kept c
kept_receive b c id n h pos most free is =
    let p = not_refused n b free in
    let l : length (b.waiting ++ (waiting_page id n ∷ [])) ≡ length b.waiting + 1 = length-append b.waiting (waiting_page id n ∷ []) in
    let k : Kept (receive id n b) = record {
      whole = record {
        paged = omega (arith, h.whole.paged);
        unfed = unfed_more b.waiting (waiting_page id n) h.whole.unfed pos;
        first = first_more b.waiting b.committed.copies (waiting_page id n) h.whole.first (λ z. p.level (omega (arith, h.whole.paged)));
        few = h.whole.few;
      };
      small = small_more b.waiting (waiting_page id n) h.small most;
      short = omega (arith, h.short, p.space);
      within = h.within;
      fits = omega (arith, h.fits, p.some);
      tied = h.tied;
      each = h.each;
    } in
    subst Kept (sym is) k

-- the path's oldest sheet leaves it
stacked_at : (b : Spooled) → Kept b → (p : List Sheet) → b.path ≡ p → Kept (stack_at p b)
stacked_at b h [] e = h
stacked_at b h (s ∷ ss) e = record {
  whole = record { paged = h.whole.paged; unfed = h.whole.unfed; first = h.whole.first; few = h.whole.few };
  small = h.small;
  short = h.short;
  within = let l : length b.path ≡ suc (length ss) = ap length e in omega (arith, h.within);
  fits = h.fits;
  tied = h.tied ∙ ap (onward b.stacked) e;
  each = λ k le. subst (λ p. (onward b.stacked (take (suc k) p)).copies ≤ 254) e (h.each (suc k) (let l : length b.path ≡ suc (length ss) = ap length e in omega arith));
}

pub kept_stack : (b c : Spooled) → Kept b → c ≡ stack b → Kept c
kept_stack b c h e = subst Kept (sym e) (stacked_at b h b.path refl)

-- it can be counted
pub stack_counts : (b : Spooled) (x : Sheet) → Kept b → Some x ≡ slice_get b.path 0 → None ≡ plus_of b.stacked x → ⊥
stack_counts b x h es ep = go b.path refl es
  where
    go : (p : List Sheet) → b.path ≡ p → Some x ≡ slice_get p 0 → ⊥
    go [] e es = cc
    go (s ∷ ss) e es =
        let t = b.stacked in
        let is : x ≡ s = cc in
        let few : t.copies ≤ 254 = h.each 0 (omega arith) in
        let most : b.committed.pages ≡ (onward (after t s) ss).pages = ap (λ (t : Pair). t.pages) h.tied ∙ ap (λ l. (onward t l).pages) e in
        both_ways _ (plus_fits t x ep) (fits_is t x
        (λ last.
        let a : (after t x).pages ≡ t.pages + 1 = ap (λ (u : Pair). u.pages) (after_last t x last) in
        let a' : (after t s).pages ≡ (after t x).pages = ap (λ y. (after t y).pages) (sym is) in
        omega (arith, h.whole.paged, h.fits, onward_pages (after t s) ss))
        (omega arith))

-- the next copy is fed
few_after : (t : Pair) (w : WaitingPage) → 0 < w.unfed → t.copies + w.unfed ≤ 255 → (after t (next_sheet t w)).copies ≤ 254
few_after t w pos most = go (eqb w.unfed 1) refl
  where
    go : (b : Bool) → eqb w.unfed 1 ≡ b → (cond b (pair (t.pages + 1) 0) (pair t.pages (t.copies + 1))).copies ≤ 254
    go true e = omega arith
    go false e = let ne = eqb-false w.unfed 1 e in omega arith

-- with one sheet more in the path, the tally after each part of it is still small
each_more : (t : Pair) (p : List Sheet) (s : Sheet) → ((k : ℕ) → k ≤ length p → (onward t (take k p)).copies ≤ 254) → (onward t (p ++ (s ∷ []))).copies ≤ 254 → (k : ℕ) → k ≤ length (p ++ (s ∷ [])) → (onward t (take k (p ++ (s ∷ [])))).copies ≤ 254
each_more t [] s each last zero le = each 0 (omega arith)
each_more t [] s each last (suc zero) le = last
each_more t [] s each last (suc (suc k)) le = absurd (omega arith)
each_more t (x ∷ p) s each last zero le = each 0 (omega arith)
each_more t (x ∷ p) s each last (suc k) le = each_more (after t x) p s (λ j l. each (suc j) (omega arith)) last k (omega arith)

-- what waits then, by whether the page has left
record Left (t : Pair) (w : WaitingPage) (ws : List WaitingPage) (r : ℕ) (u : Pair) (rest : List WaitingPage) : Type 0 where
  paged : u.pages + length rest ≡ r
  unfed : Unfed rest
  small : Small rest
  first : first_copies u.copies rest ≤ 255
  short : length rest ≤ length ws + 1

left : (t : Pair) (w : WaitingPage) (ws : List WaitingPage) (r : ℕ) → t.pages + length (w ∷ ws) ≡ r → Unfed (w ∷ ws) → Small (w ∷ ws) → t.copies + w.unfed ≤ 255 → Left t w ws r (after t (next_sheet t w)) (fed_pages w ws)
left t w ws r paged unfed small most = go (eqb w.unfed 1) refl
  where
    first_of : (ws : List WaitingPage) → Small ws → first_copies 0 ws ≤ 255
    first_of [] h = omega arith
    first_of (x ∷ xs) h = omega (arith, h.0)

    go : (b : Bool) → eqb w.unfed 1 ≡ b → Left t w ws r (cond b (pair (t.pages + 1) 0) (pair t.pages (t.copies + 1))) (cond b ws (waiting_page w.page (w.unfed - 1) ∷ ws))
    go true e = record { paged = omega arith; unfed = unfed.1; small = small.1; first = first_of ws small.1; short = omega arith }
    go false e =
        let ne = eqb-false w.unfed 1 e in
        record {
          paged = paged;
          unfed = (omega (arith, unfed.0), unfed.1);
          small = (omega (arith, small.0), small.1);
          first = omega (arith, unfed.0);
          short = omega arith;
        }

committed_at : (b : Spooled) → Kept b → free b ≡ true → (ws : List WaitingPage) → b.waiting ≡ ws → Kept (commit_at ws b)
committed_at b h fr [] e = h
committed_at b h fr (w ∷ ws) e =
    let t = b.committed in
    let s = next_sheet t w in
    let room : length b.path < 8 = ltb-true (length b.path) 8 fr in
    let l : length b.waiting ≡ suc (length ws) = ap length e in
    let unfed : Unfed (w ∷ ws) = subst Unfed e h.whole.unfed in
    let most : t.copies + w.unfed ≤ 255 = subst (λ ws. first_copies t.copies ws ≤ 255) e h.whole.first in
    let f = left t w ws b.received (omega (arith, h.whole.paged)) unfed (subst Small e h.small) most in
    let few = few_after t w unfed.0 most in
    let tied : after t s ≡ onward b.stacked (b.path ++ (s ∷ [])) = ap (λ u. after u s) h.tied ∙ sym (onward_append b.stacked b.path (s ∷ [])) in
    record {
      whole = record { paged = f.paged; unfed = f.unfed; first = f.first; few = few };
      small = f.small;
      short = omega (arith, f.short, h.short);
      within = let n : length (b.path ++ (s ∷ [])) ≡ length b.path + 1 = length-append b.path (s ∷ []) in omega arith;
      fits = h.fits;
      tied = tied;
      each = each_more b.stacked b.path s h.each (subst (λ (u : Pair). u.copies ≤ 254) tied few);
    }

pub kept_commit : (b c : Spooled) → Kept b → c ≡ commit b → Kept c
kept_commit b c h is = subst Kept (sym is) (go (free b) refl)
  where
    go : (f : Bool) → free b ≡ f → Kept (cond f (commit_at b.waiting b) b)
    go true e = committed_at b h e b.waiting refl
    go false e = h

pub unfed_most : (ws : List WaitingPage) → Small ws → unfed_in ws ≤ 255 * length ws
unfed_most [] h = omega arith
unfed_most (w ∷ ws) h = let rest = unfed_most ws h.1 in let e = sum_by-cons (λ (w : WaitingPage). w.unfed) w ws in omega (arith, h.0)
