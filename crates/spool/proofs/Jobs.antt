-- Fronts of a job: a front of its sheets is where its tally says.
use Rattle.std.proofs.Common.{◌≡◌, ℕ, zero, suc, ◌+◌, ◌<◌, ◌≤◌, true, false, List, [], ◌∷◌, ◌++◌, length, get_or, take, drop, sym, refl, ap, ◌∙◌, append_assoc, append-nil, add-zero, zero-add, arith, take-append-drop}
use Rattle.std.proofs.Math.Seq.{take-nil}
use Rattle.std.proofs.lemmas.List.{take_all, take_more, get_or_past}
use Rattle.engine.specs.declared.sheet.Sheet.{Sheet}
use Rattle.engine.specs.Sheets.{Pair, pair, after, onward, tally}
use Rattle.spool.specs.Jobs.{Page, page, blank, Proper, sheet, ended, numbered, page_sheets, job_sheets, upto}

-- copies of a page as its first c and the rest
pub parted : (id k m c n : ℕ) → m ≡ c + suc n → numbered id k m ≡ take c (numbered id k m) ++ numbered id (k + c) (suc n)
parted id k m zero n e =
    let e' : m ≡ suc n = omega arith in
    let z : k ≡ k + 0 = omega arith in
    ap (numbered id k) e' ∙ ap (λ j. numbered id j (suc n)) z
parted id k zero (suc c) n e = absurd (omega arith)
parted id k (suc m) (suc c) n e =
    let z : k + 1 + c ≡ k + suc c = omega arith in
    let e' : m ≡ c + suc n = omega arith in
    ap (λ l. sheet id k (ended m) ∷ l) (parted id (k + 1) m c n e' ∙ ap (λ j. take c (numbered id (k + 1) m) ++ numbered id j (suc n)) z)

-- a front xs of a page's sheets ps and what follows: it ends in the page, or goes past it
data Cut (t : Pair) (xs zs ps rest : List Sheet) : Type 0 where
  short : (c : ℕ) → xs ≡ take c ps → onward t xs ≡ pair t.pages (t.copies + c) → Cut t xs zs ps rest
  long : (us : List Sheet) → xs ≡ ps ++ us → us ++ zs ≡ rest → onward t xs ≡ onward (pair (t.pages + 1) 0) us → Cut t xs zs ps rest

within : (t : Pair) (id k n : ℕ) (xs zs rest : List Sheet) → xs ++ zs ≡ numbered id k (suc n) ++ rest → Cut t xs zs (numbered id k (suc n)) rest
within t id k n [] zs rest e = short 0 refl (ap (λ c. pair t.pages c) (sym (add-zero t.copies)))
within t id k zero (x ∷ xs) zs rest e =
    let ex : x ≡ sheet id k true = cc in
    let er : xs ++ zs ≡ rest = cc in
    long xs (ap (λ y. y ∷ xs) ex) er (ap (λ y. onward (after t y) xs) ex)
within t id k (suc n) (x ∷ xs) zs rest e =
    let ex : x ≡ sheet id k false = cc in
    let er : xs ++ zs ≡ numbered id (k + 1) (suc n) ++ rest = cc in
    next ex (within (after t x) id (k + 1) n xs zs rest er)
  where
    next : x ≡ sheet id k false → Cut (after t x) xs zs (numbered id (k + 1) (suc n)) rest → Cut t (x ∷ xs) zs (numbered id k (suc (suc n))) rest
    next ex (short c is met) =
        let ec : t.copies + 1 + c ≡ t.copies + suc c = omega arith in
        short (suc c) (ap (λ y. y ∷ xs) ex ∙ ap (λ l. sheet id k false ∷ l) is) (met ∙ ap (λ y. pair (after t y).pages ((after t y).copies + c)) ex ∙ ap (λ m. pair t.pages m) ec)
    next ex (long us is left met) =
        long us (ap (λ y. y ∷ xs) ex ∙ ap (λ l. sheet id k false ∷ l) is) left (met ∙ ap (λ y. onward (pair ((after t y).pages + 1) 0) us) ex)

-- where a front of a job ends: j pages are whole, and c copies of the next are there
record Place (P : ℕ) (J : List Page) (xs : List Sheet) : Type 0 where
  j : ℕ
  c : ℕ
  met : onward (pair P 0) xs ≡ pair (P + j) c
  is : xs ≡ upto J j c

placed : (P : ℕ) (J : List Page) (xs zs : List Sheet) → Proper J → xs ++ zs ≡ job_sheets J → Place P J xs
placed P [] [] zs pr e = record { j = 0; c = 0; met = ap (λ m. pair m 0) (sym (add-zero P)); is = refl }
placed P [] (x ∷ xs) zs pr e = cc
placed P (p ∷ ps) xs zs pr e = go (λ us left. placed (P + 1) ps us zs pr.1 left) p.copies refl
  where
    cut : ((us : List Sheet) → us ++ zs ≡ job_sheets ps → Place (P + 1) ps us) → (n : ℕ) → p.copies ≡ suc n → Cut (pair P 0) xs zs (numbered p.id 1 (suc n)) (job_sheets ps) → Place P (p ∷ ps) xs
    cut later n pn (short c is met) = record {
      j = 0;
      c = c;
      met = met ∙ ap (λ m. pair P m) (zero-add c) ∙ ap (λ m. pair m c) (sym (add-zero P));
      is = is ∙ ap (λ m. take c (numbered p.id 1 m)) (sym pn);
    }
    cut later n pn (long us is left met) =
        let r = later us left in
        let ej : P + 1 + r.j ≡ P + suc r.j = omega arith in
        record {
          j = suc r.j;
          c = r.c;
          met = met ∙ r.met ∙ ap (λ m. pair m r.c) ej;
          is = is ∙ ap (λ l. numbered p.id 1 (suc n) ++ l) r.is ∙ ap (λ m. numbered p.id 1 m ++ upto ps r.j r.c) (sym pn) ∙ sym (append_assoc (page_sheets p) (job_sheets (take r.j ps)) (take r.c (page_sheets (get_or ps r.j blank))));
        }

    go : ((us : List Sheet) → us ++ zs ≡ job_sheets ps → Place (P + 1) ps us) → (m : ℕ) → p.copies ≡ m → Place P (p ∷ ps) xs
    go later zero pn = absurd (omega (arith, pr.0.0))
    go later (suc n) pn = cut later n pn (within (pair P 0) p.id 1 n xs zs (job_sheets ps) (e ∙ ap (λ m. numbered p.id 1 m ++ job_sheets ps) pn))

-- what is left of a job behind a place in it
rest : (J : List Page) (r c : ℕ) → (zs : List Sheet) × (upto J r c ++ zs ≡ job_sheets J)
rest [] r c = ([], rw (take-nil {A = Page} r, take-nil {A = Sheet} c))
rest (p ∷ ps) zero c =
    (drop c (page_sheets p) ++ job_sheets ps, sym (append_assoc (take c (page_sheets p)) (drop c (page_sheets p)) (job_sheets ps)) ∙ ap (λ l. l ++ job_sheets ps) (take-append-drop c (page_sheets p)))
rest (p ∷ ps) (suc r) c =
    let h = rest ps r c in
    (h.0, simp append_assoc (ap (λ l. page_sheets p ++ l) (simp append_assoc at h.1)))

-- a front of what a job has had is where its tally says
pub regained : (J : List Page) → Proper J → (r c : ℕ) (xs ys : List Sheet) → xs ++ ys ≡ upto J r c → xs ≡ upto J (tally xs).pages (tally xs).copies
regained J pr r c xs ys e =
    let h = rest J r c in
    let whole : xs ++ (ys ++ h.0) ≡ job_sheets J = sym (append_assoc xs ys h.0) ∙ ap (λ l. l ++ h.0) e ∙ h.1 in
    let p = placed 0 J xs (ys ++ h.0) pr whole in
    p.is ∙ ap (λ (t : Pair). upto J t.pages t.copies) (sym (p.met ∙ ap (λ m. pair m p.c) (zero-add p.j)))

-- all pages of a job are there
pub upto_all : (J : List Page) (r c : ℕ) → length J ≤ r → upto J r c ≡ job_sheets J
upto_all J r c le =
    ap (λ l. job_sheets l ++ take c (page_sheets (get_or J r blank))) (take_all r J le) ∙ ap (λ p. job_sheets J ++ take c (page_sheets p)) (get_or_past J r blank le) ∙ ap (λ l. job_sheets J ++ l) (take-nil {A = Sheet} c) ∙ append-nil (job_sheets J)

job_sheets_push : (J : List Page) (p : Page) → job_sheets (J ++ (p ∷ [])) ≡ job_sheets J ++ page_sheets p
job_sheets_push [] p = append-nil (page_sheets p)
job_sheets_push (q ∷ qs) p = ap (λ l. page_sheets q ++ l) (job_sheets_push qs p) ∙ sym (append_assoc (page_sheets q) (job_sheets qs) (page_sheets p))

-- one more page of a job
pub job_more : (J : List Page) (r : ℕ) → r < length J → job_sheets (take (r + 1) J) ≡ job_sheets (take r J) ++ page_sheets (get_or J r blank)
job_more J r l = ap job_sheets (take_more J r blank l) ∙ job_sheets_push (take r J) (get_or J r blank)

-- the committed copies of a page and the n that complete it
pub page_whole : (id b n : ℕ) → 0 < n → take b (page_sheets (page id (b + n))) ++ numbered id (b + 1) n ≡ page_sheets (page id (b + n))
page_whole id b zero pos = absurd (omega arith)
page_whole id b (suc n) pos =
    let e : 1 + b ≡ b + 1 = omega arith in
    ap (λ j. take b (numbered id 1 (b + suc n)) ++ numbered id j (suc n)) (sym e) ∙ sym (parted id 1 (b + suc n) b n refl)
