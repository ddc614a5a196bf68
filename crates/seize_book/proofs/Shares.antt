-- A porter that goes off begins a period, lends passes by `&`, and comes home, when the period is over; and a `&` to it is made of a
-- borrow. Assumes `Logic`.
--     starts, stops      a period begins, with its invariant;  it ends, and all tickets are there
--     goes_home, goes_off     so at whatever the porter is
--     lends_pass         a `&` lends a pass, which has seen a legal list;  looks_on     and a pass looks at the list beside one
--     Lends-porter, porter_laws     a `&` to it is a share of its period's token
use Rattle.std.proofs.Common.{◌≡◌, ℕ, suc, ◌-◌, ◌≤◌, Bool, true, false, List, [], ◌∷◌, ◌++◌, refl, sym, ◌∙◌, arith}
use mathlib.Core.HLevel.{⊥_prop}
use mathlib.Core.List.{IsPrefix, mem-cons, not-mem-nil}
use mathlib.Core.Logic.Or
use seplogic.Ra.Ura.{Ura}
use base.Before.{before, chain}
use base.Fml.{Lft, Share, Fml, Incl, ftrue, fsep, fseps, fwand, fupd, fdead, flft, flent, fbor, fnamed, fshr_bor}
use base.Fraction.{full_share}
use base.Growing.{prefix_refl, prefix_trans}
use base.Logic.{SProp, ent, sep, ex, guard, wand, emp, via, upd, upd_i, id⊢, apply∗}
use base.SetCodes.{coded_share}
use base.Several.{Apart as AreApart}
use base.Share
use base.Share.{three_quarters}
use contract.BorrowLft.{meet_⊑_left}
use contract.Running.{Running}
use contract.Shared.{Lends-one}
use denote.Sharing.{ShrLaws}
use denote.SharingLaws.{ends_shr_laws, nothing_shr_laws}
use denote.Steps.{nothing}
use denote.Struct.Lending.{Lends, Lends-nothing}
use ghost.Rules.{span, thinned}
use prog.Model.{Model}
use types.Growing.{at_least_dup}
use types.Keyed.{entries_new}
use types.Kit.{‵, raw, ◌⊛◌, some, given, later, ◌$◌, ◌∵◌, !, qed, move, keep, drop, use0, use1, use2, use3, split, split3, group, fsplit, fsplit3, fjoin, fjoin3, fpick, fpack, frame, show, check, pick, learn, assume, rewrite, suffices, settle, await, updating, now, done}
use types.Logic.{Logic, sem, lfts}
use types.Na.{before_dup}
use types.Owned.{basic, named_past}
use types.Tokens.{bor_fracture, bor_new, bor_open, lft_end, lft_new, obor_alter, one_token}
use types.Within.{bor-before}
use Rattle.seize_book.specs.Book.{IsLegalList, mine, passes}
use Rattle.seize_book.specs.Entry.{Entry, entry_coded}
use Rattle.seize_book.specs.Ledger.{halved, logs, piece, reached, roster}
use Rattle.seize_book.specs.Fair.{Before}
use Rattle.seize_book.specs.Passes.{Longer}
use Rattle.seize_book.specs.Tokens.{IsSole, Name, inside, knows, lent_at, lent_pass, pass_holds, pass_owns, porter_owns, start}
use Rattle.seize_book.specs.Porters.{GoesOnTo}
use Rattle.seize_book.proofs.Borrowed.{closed, opened as ticket_opened, waits}
use Rattle.seize_book.proofs.Learning.{hears, longer_left, longer_right}
use Rattle.seize_book.proofs.Looks.{before_that, looks_now, permits}
use Rattle.seize_book.proofs.Passes.{IsDistinct}
use Rattle.seize_book.proofs.Notes.{distinct_links, knows_twice, minted, new_keys, Picks}
use Rattle.seize_book.proofs.Roster.{mints}
use Rattle.seize_book.proofs.Porters.{IsHome, porter_home, porter_knows, porter_off}
use Rattle.seize_book.specs.Shared.{the_ticket, known, period_number, porter_has, porter_shares, lending, lending_shown, period, side}
use Rattle.seize_book.proofs.Periods.{Begun, Gathered, Shown, begins, gathers, had_back, its_key, lents, mark, same_loan, settles, shows}

abbrev Which : Type 0
Which = ℕ × (ℕ × ℕ)

module _ {M : Type 1} {𝓤 : Ura M} (𝓛 : Logic 𝓤) where
  open 𝓛 use {H, A}

  abbrev Pr : Type 2
  Pr = SProp 𝓤

  abbrev ◌⊢◌ : Pr → Pr → Type 1
  P ⊢ Q = ent 𝓤 P Q

  abbrev ◌∗◌ : Pr → Pr → Pr
  P ∗ Q = sep 𝓤 P Q

  abbrev ⟦◌⟧ : Fml → Pr
  ⟦ P ⟧ = sem 𝓛 P

  infix 26 ◌⊢◌
  infixr 35 ◌∗◌
  -- an invariant of its own number is opened by a ghost step alone
  opened : (i : ℕ) (P : Fml) (X Y : Pr) → ⟦ P ⟧ ∗ X ⊢ upd 𝓤 (⟦ P ⟧ ∗ Y) → A.named i P ∗ X ⊢ H.⇛ Y
  opened i P X Y h = qed 𝓛 (‵ (fnamed i P) ∷ raw X ∷ []) ∵ use0 𝓛 (‵ ftrue) (id⊢ 𝓤 (emp 𝓤)) $ move ! (1 ∷ 0 ∷ []) $ fjoin ! $
      suffices ! _ (𝓛.invs.invs_acc ((i, P) ∷ []) Y ((λ m. not-mem-nil m), tt)) $ frame ! $ assume ! (‵ (fsep P ftrue)) $ fsplit ! $ move ! (0 ∷ 2 ∷ []) $
      let Z : Pr = ⟦ fsep P ftrue ⟧ ∗ Y in use2 𝓛 (raw (upd 𝓤 (⟦ P ⟧ ∗ Y))) h $ settle 𝓛 Z (‵ P ⊛ raw Y) $ suffices ! _ (upd_i 𝓤 Z) $ split ! $ move ! (0 ∷ 2 ∷ []) $ fjoin ! $ done !

  differ : (i j : ℕ) (P Q : Fml) → ¬ (i ≡ j) → AreApart ((i, P) ∷ (j, Q) ∷ [])
  differ i j P Q ne = ((λ m. Or.elim ⊥_prop ((mem-cons {a = i} {b = j} {l = []}).0 m) ne (λ x. not-mem-nil x)), ((λ m. not-mem-nil m), tt))

  -- two of them at once
  both_opened : (i j : ℕ) (P Q : Fml) (X Y : Pr) → ¬ (i ≡ j) → ⟦ P ⟧ ∗ ⟦ Q ⟧ ∗ X ⊢ ⟦ P ⟧ ∗ ⟦ Q ⟧ ∗ Y → A.named i P ∗ A.named j Q ∗ X ⊢ H.⇛ Y
  both_opened i j P Q X Y ne h = let all : Fml = fsep P (fsep Q ftrue) in qed 𝓛 (‵ (fnamed i P) ∷ ‵ (fnamed j Q) ∷ raw X ∷ []) ∵ nothing ! $ move ! (1 ∷ 2 ∷ 0 ∷ []) $ fjoin3 ! $
      suffices ! _ (𝓛.invs.invs_acc ((i, P) ∷ (j, Q) ∷ []) Y (differ i j P Q ne)) $ frame ! $ assume ! (‵ all) $ fsplit3 ! $ suffices ! _ (upd_i 𝓤 (⟦ all ⟧ ∗ Y)) $
      -- [the one; the other; nothing; what is brought]
      move ! (0 ∷ 1 ∷ 3 ∷ []) $ use3 𝓛 (‵ P ⊛ ‵ Q ⊛ raw Y) h $ split3 ! $ move ! (0 ∷ 1 ∷ 3 ∷ []) $ fjoin3 ! $ done !

  fresh : emp 𝓤 ⊢ H.⇛ (ex 𝓤 (λ (δ : ℕ). ⟦ roster coded_share δ 0 [] ⟧))
  fresh = via 𝓤 _ (entries_new (halved coded_share) 𝓛 0 (λ _. (full_share, []))) (basic 𝓛 _)

  first_row : (δ : ℕ) → ⟦ roster coded_share δ 0 [] ⟧ ⊢ H.⇛ (⟦ roster coded_share δ 0 ([] ∷ []) ⟧ ∗ ⟦ piece coded_share δ 0 three_quarters [] ⟧)
  first_row δ = via 𝓤 _ (mints coded_share 𝓛 δ [] 0 0 [] (omega arith)) (basic 𝓛 _)

  is_before : (κ μ : Lft) → ⟦ fshr_bor κ (λ q. flft μ q) ⟧ ⊢ ⟦ before κ μ ⟧
  is_before κ μ = qed 𝓛 (‵ (fshr_bor κ (λ q. flft μ q)) ∷ []) ∵ nothing ! $ fpack ! (Incl (μ ++ κ) μ) (λ _. ftrue) (meet_⊑_left μ κ) $ move ! (1 ∷ 0 ∷ []) $ fjoin ! $
      fpack ! (List Lft) (λ νs. chain νs κ μ) (μ ∷ []) $ done !

  module _ (n : Name) (seen : List Entry) where
    abbrev Off : Fml
    Off = porter_owns n false 0 seen

    abbrev Owner : Fml
    Owner = porter_has n false seen

    abbrev had : Fml
    had = reached entry_coded n.log seen

    abbrev Known : Fml
    Known = known n seen

    pub starts : ⟦ Off ⟧ ⊢ H.⇛ ⟦ Owner ⟧
    starts = qed 𝓛 (‵ Off ∷ []) ∵ updating ! $ use1 𝓛 (‵ Off ⊛ ‵ (knows n) ⊛ ‵ had) (porter_knows 𝓛 n false 0 seen) $ split3 ! $ lft_new ! tt (λ a. let μ : Lft = a ∷ [] in
        use0 𝓛 (later (some (λ (δ : ℕ). ‵ (roster coded_share δ 0 [])))) fresh $ await ! tt $ pick ! (λ δ. let I : Fml = period n seen μ δ in
        use1 𝓛 (later (‵ (roster coded_share δ 0 ([] ∷ [])) ⊛ ‵ (piece coded_share δ 0 three_quarters []))) (first_row δ) $ await ! tt $ split ! $
        -- [the keys; the mark; its lifetime; the porter; the book; what it has seen]
        move ! (3 ∷ []) $ nothing ! $ fjoin ! $ move ! (1 ∷ 0 ∷ []) $ fjoin ! $
        fpack ! (List (List Share)) (λ xs. fsep (roster coded_share δ 0 xs) (side n seen μ xs)) ([] ∷ []) $
        use1 𝓛 (later (some (λ (j : ℕ). given (suc n.number ≤ j) (‵ (fnamed j I))))) (named_past 𝓛 (suc n.number) I) $ await ! tt $ pick ! (λ j. learn ! (λ past. let k : ℕ = j - suc n.number in
        rewrite ! 0 (λ (i : ℕ). ‵ (fnamed i I)) (let e : j ≡ period_number n k = omega (arith, past) in e) refl $
        -- [the invariant; the mark; its lifetime; the book; what it has seen]
        move ! (3 ∷ 4 ∷ []) $ fjoin ! $ move ! (3 ∷ 0 ∷ []) $ fjoin ! $ move ! (2 ∷ 0 ∷ []) $ fjoin ! $ move ! (1 ∷ 0 ∷ []) $ fjoin ! $ fpack ! Which (lending n seen) (a, (k, δ)) $ now ! $ done !))))

    pub stops : ⟦ Owner ⟧ ⊢ H.⇛ ⟦ Off ⟧
    stops = qed 𝓛 (‵ Owner ∷ []) ∵ updating ! $ fpick ! (λ t. let μ : Lft = t.0 ∷ [] in let i : ℕ = period_number n t.1.0 in let δ : ℕ = t.1.1 in let I : Fml = period n seen μ δ in fsplit ! $ move ! (1 ∷ []) $ fsplit3 ! $
        -- [the mark; its lifetime; what it knows; the invariant]
        move ! (1 ∷ []) $ lft_end ! tt $ use1 𝓛 (‵ (fdead μ) ⊛ ‵ (fdead μ)) (𝓛.lfts.dead_dup μ) $ split ! $ move ! (4 ∷ 2 ∷ 0 ∷ []) $ group ! 3 $
        use1 𝓛 (later (some (λ (m : ℕ). ‵ (porter_owns n false m seen) ⊛ ‵ (lents 𝓛 n seen μ δ m)))) (opened i I (⟦ mark 𝓛 n seen μ δ 0 [] ⟧ ∗ ⟦ fdead μ ⟧) (ex 𝓤 (Gathered 𝓛 n seen μ δ)) (gathers 𝓛 n seen μ δ)) $ await ! tt $ pick ! (λ m. split ! $
        use3 𝓛 (later (‵ (porter_owns n false 0 seen))) (had_back 𝓛 n seen μ δ m) $ await ! tt $
        now ! $ keep ! (0 ∷ []) $ done !))

    -- ---- a `&` is made of a borrow
    way_back : (κ : Lft) (a j δ : ℕ) → ⟦ fnamed (period_number n j) (period n seen (a ∷ []) δ) ⟧ ∗ ⟦ piece coded_share δ 0 three_quarters [] ⟧ ∗ ⟦ Known ⟧ ⊢ ⟦ fwand (fsep (fdead κ) (fseps (flft (a ∷ []) full_share ∷ []))) (fupd Owner) ⟧
    unfolding fseps
    way_back κ a j δ = qed 𝓛 (‵ (fnamed (period_number n j) (period n seen (a ∷ []) δ)) ∷ ‵ (piece coded_share δ 0 three_quarters []) ∷ ‵ Known ∷ []) ∵ assume ! (‵ (fsep (fdead κ) (fsep (flft (a ∷ []) full_share) ftrue))) $
        suffices ! ⟦ Owner ⟧ (upd_i 𝓤 ⟦ Owner ⟧) $ fsplit3 ! $
        -- [the end; its lifetime; nothing; the invariant; the mark; what it knows]
        move ! (1 ∷ 5 ∷ []) $ fjoin ! $ move ! (4 ∷ 0 ∷ []) $ fjoin ! $ move ! (3 ∷ 0 ∷ []) $ fjoin ! $ fpack ! Which (lending n seen) (a, (j, δ)) $ keep ! (0 ∷ []) $ done !

    shared : (κ : Lft) (q : Share) → A.bor κ Owner ∗ A.lft κ q ⊢ H.⇛ (⟦ porter_shares n false seen κ ⟧ ∗ A.lft κ q)
    unfolding fseps
    shared κ q = qed 𝓛 (‵ (fbor κ Owner) ∷ ‵ (flft κ q) ∷ []) ∵ updating ! $ bor_open ! tt $ move ! (1 ∷ []) $ fpick ! (λ t. let μ : Lft = t.0 ∷ [] in let i : ℕ = period_number n t.1.0 in let δ : ℕ = t.1.1 in let I : Fml = period n seen μ δ in let L : Fml = flft μ full_share in
        fsplit ! $ move ! (1 ∷ []) $ fsplit3 ! $
        -- [the mark; its lifetime; what it knows; the invariant; the open borrow]
        move ! (3 ∷ []) $ use1 𝓛 (‵ (fnamed i I) ⊛ ‵ (fnamed i I)) (𝓛.invs.named_dup i I) $ split ! $ move ! (4 ∷ []) $ fsplit ! $ use1 𝓛 (‵ (knows n) ⊛ ‵ (knows n)) (knows_twice 𝓛 n) $ split ! $
        -- [the book, twice; what it has seen; the invariant, twice; the mark; its lifetime; the open borrow]
        move ! (2 ∷ []) $ use1 𝓛 (‵ had ⊛ ‵ had) (at_least_dup (logs entry_coded) 𝓛 n.log seen) $ split ! $ move ! (2 ∷ 0 ∷ []) $ fjoin ! $
        -- [what it knows; what it has seen; the book; the invariant, twice; the mark; its lifetime; the open borrow]
        move ! (3 ∷ 5 ∷ 0 ∷ []) $ use3 𝓛 (‵ (fwand (fsep (fdead κ) (fseps (L ∷ []))) (fupd Owner))) (way_back κ t.0 t.1.0 δ) $
        -- [the way back; what it has seen; the book; the invariant; its lifetime; the open borrow]
        move ! (4 ∷ []) $ nothing ! $ move ! (1 ∷ 0 ∷ []) $ fjoin ! $ move ! (5 ∷ 0 ∷ 1 ∷ []) $ obor_alter ! tt (L ∷ []) $
        use1 𝓛 (‵ (fbor κ L) ⊛ ‵ ftrue) (id⊢ 𝓤 _) $ split ! $ bor_fracture ! tt (λ s. flft μ s) full_share $ use1 𝓛 (‵ (before κ μ)) (is_before κ μ) $
        -- [κ; nothing; the token; what it has seen; the book; the invariant]
        move ! (4 ∷ 3 ∷ []) $ fjoin ! $ move ! (4 ∷ 0 ∷ []) $ fjoin ! $ move ! (1 ∷ 0 ∷ []) $ fjoin ! $ fpack ! Which (lending_shown n seen κ) t $ now ! $ keep ! (0 ∷ 2 ∷ []) $ done !)

    Lends-off : (l : Lft) → Lends 𝓛 Owner (porter_shares n false seen) l
    Lends-off l κ ts inc sp = qed 𝓛 (‵ (fbor κ Owner) ∷ raw (lfts 𝓛 ts) ∷ []) ∵ updating ! $ move ! (1 ∷ []) $
        use1 𝓛 (some (λ (q : Share). ‵ (flft (span ts) q) ⊛ raw (wand 𝓤 (A.lft (span ts) q) (lfts 𝓛 ts)))) (one_token 𝓛 ts) $ pick ! (λ q. split ! $
        use1 𝓛 (‵ (flft κ (thinned κ q)) ⊛ raw (wand 𝓤 (A.lft κ (thinned κ q)) (A.lft (span ts) q))) (𝓛.lfts.lft-incl (span ts) κ q sp) $ split ! $ move ! (3 ∷ 0 ∷ []) $
        use2 𝓛 (later (‵ (porter_shares n false seen κ) ⊛ ‵ (flft κ (thinned κ q)))) (shared κ (thinned κ q)) $ await ! tt $ split ! $ move ! (1 ∷ 2 ∷ []) $
        use2 𝓛 (‵ (flft (span ts) q)) (apply∗ 𝓤 (A.lft κ (thinned κ q)) (A.lft (span ts) q)) $ move ! (0 ∷ 2 ∷ []) $ use2 𝓛 (raw (lfts 𝓛 ts)) (apply∗ 𝓤 (A.lft (span ts) q) (lfts 𝓛 ts)) $
        now ! $ move ! (1 ∷ 0 ∷ []) $ done !)

    pub Lends-porter : (home : Bool) (l : Lft) → Lends 𝓛 (porter_has n home seen) (porter_shares n home seen) l
    Lends-porter true l = Lends-nothing 𝓛 (porter_has n true seen) l
    Lends-porter false l = Lends-off l

    twice : (κ : Lft) → ⟦ porter_shares n false seen κ ⟧ ⊢ ⟦ porter_shares n false seen κ ⟧ ∗ ⟦ porter_shares n false seen κ ⟧
    twice κ = qed 𝓛 (‵ (porter_shares n false seen κ) ∷ []) ∵ fpick ! (λ t. let μ : Lft = t.0 ∷ [] in let i : ℕ = period_number n t.1.0 in let N : Fml = fnamed i (period n seen μ t.1.1) in fsplit ! $ move ! (1 ∷ []) $ fsplit3 ! $
        -- [the invariant; the book; what it has seen; κ]
        use1 𝓛 (‵ N ⊛ ‵ N) (𝓛.invs.named_dup i (period n seen μ t.1.1)) $ split ! $ move ! (2 ∷ []) $ use1 𝓛 (‵ (knows n) ⊛ ‵ (knows n)) (knows_twice 𝓛 n) $ split ! $ move ! (4 ∷ []) $
        use1 𝓛 (‵ had ⊛ ‵ had) (at_least_dup (logs entry_coded) 𝓛 n.log seen) $ split ! $ move ! (6 ∷ []) $ use1 𝓛 (‵ (before κ μ) ⊛ ‵ (before κ μ)) (before_dup 𝓛 κ μ) $ split ! $
        -- [κ, twice; what it has seen, twice; the book, twice; the invariant, twice]
        move ! (6 ∷ 4 ∷ 2 ∷ []) $ fjoin3 ! $ move ! (1 ∷ 0 ∷ []) $ fjoin ! $ fpack ! Which (lending_shown n seen κ) t $ frame ! $
        move ! (3 ∷ 2 ∷ 1 ∷ []) $ fjoin3 ! $ move ! (1 ∷ 0 ∷ []) $ fjoin ! $ fpack ! Which (lending_shown n seen κ) t $ done !)

    shorter : (κ' κ : Lft) → ⟦ before κ' κ ⟧ ∗ ⟦ porter_shares n false seen κ ⟧ ⊢ ⟦ porter_shares n false seen κ' ⟧
    shorter κ' κ = qed 𝓛 (‵ (before κ' κ) ∷ ‵ (porter_shares n false seen κ) ∷ []) ∵ move ! (1 ∷ []) $ fpick ! (λ t. fsplit ! $ move ! (2 ∷ 0 ∷ []) $
        use2 𝓛 (‵ (before κ' (t.0 ∷ []))) ((ends_shr_laws (t.0 ∷ [])).mono M 𝓤 𝓛 κ' κ) $ fjoin ! $ fpack ! Which (lending_shown n seen κ') t $ done !)

    -- ---- through a `&`
    module _ (𝓜 : Model 𝓤 𝓛.H) (𝓡 : Running 𝓤 𝓛.H 𝓜) (κ : Lft) (q : Share) where
      abbrev pub IsFresh : ℕ × List Entry → Type 0
      IsFresh t = ¬ (t.0 ≡ 0) × IsPrefix seen t.1 × (mine (start n) t.0 t.1 ≡ [])

      abbrev pub Lent : ℕ × List Entry → Pr
      Lent t = guard 𝓤 (IsFresh t) (⟦ lent_pass n κ t.0 t.1 ⟧ ∗ A.lft κ q)

      pub lends_pass : ⟦ porter_shares n false seen κ ⟧ ∗ A.lft κ q ⊢ H.⇛ (ex 𝓤 Lent)
      lends_pass = let births : Picks 𝓛 n = λ sizes. (passes, sizes passes) ∷ [] in let ql : Share = Share.left q in let qr : Share = Share.right q in
          qed 𝓛 (‵ (porter_shares n false seen κ) ∷ ‵ (flft κ q) ∷ []) ∵ updating ! $ fpick ! (λ t.
          let μ : Lft = t.0 ∷ [] in let i : ℕ = period_number n t.1.0 in let δ : ℕ = t.1.1 in let B : Fml = period n seen μ δ in let N : Fml = fnamed i B in let Tk : Fml = the_ticket n in fsplit ! $
          use1 𝓛 (‵ (before κ μ) ⊛ ‵ (before κ μ)) (before_dup 𝓛 κ μ) $ split ! $ move ! (2 ∷ []) $ fsplit3 ! $
          -- [the invariant; the book; what it has seen; κ, twice; its token]
          move ! (5 ∷ []) $ use1 𝓛 (‵ (flft κ ql) ⊛ ‵ (flft κ qr)) (𝓛.lfts.lft_split κ q) $ split ! $ move ! (5 ∷ 0 ∷ []) $
          use2 𝓛 (later (some (λ (s : Share). ‵ (flft μ s) ⊛ raw (wand 𝓤 (A.lft μ s) (H.⇛ (A.lft κ ql)))))) (Lends-one 𝓛 𝓜 𝓡 κ μ ql) $ await ! tt $ pick ! (λ s. let l : Share = Share.left s in let r : Share = Share.right s in split ! $
          use1 𝓛 (‵ (flft μ l) ⊛ ‵ (flft μ r)) (𝓛.lfts.lft_split μ s) $ split ! $
          -- [the share to be left; another; the way back; half of κ's token; the invariant; the book; what it has seen; κ]
          move ! (4 ∷ []) $ use1 𝓛 (‵ N ⊛ ‵ N) (𝓛.invs.named_dup i B) $ split ! $ move ! (6 ∷ []) $ use1 𝓛 (‵ (knows n) ⊛ ‵ (knows n)) (knows_twice 𝓛 n) $ split ! $
          -- [the book, twice; the invariant, twice; the share to be left; another; the way back; half of κ's token; what it has seen; κ]
          move ! (0 ∷ 8 ∷ []) $ use2 𝓛 (minted 𝓛 n seen births) (new_keys 𝓛 n seen births (λ sizes. (omega arith, (λ log j h p le. h p (omega (arith, le))), omega arith, tt))) $ await ! tt $ pick ! (λ u. learn ! (λ so. let p : ℕ = u.0 passes in let x : List Entry = u.1 in split ! $
          -- [the new key; what was reached; the book; the invariant, twice; the share to be left; another; the way back; half of κ's token; κ]
          move ! (3 ∷ 0 ∷ 5 ∷ 6 ∷ []) $ group ! 4 $
          use1 𝓛 (later (some (λ (j : ℕ). given (¬ (p ≡ 0)) (‵ (its_key 𝓛 n seen μ δ p x) ⊛ ‵ Tk ⊛ ‵ (mark 𝓛 n seen μ δ (suc j) (l ∷ [])) ⊛ ‵ (flft μ r)))))
          (opened i B (⟦ its_key 𝓛 n seen μ δ p x ⟧ ∗ ⟦ flft μ l ⟧ ∗ ⟦ flft μ r ⟧) (ex 𝓤 (Begun 𝓛 n seen μ δ p x l r)) (begins 𝓛 n seen μ δ p x l r)) $ await ! tt $ pick ! (λ j. learn ! (λ is. split3 ! $ move ! (2 ∷ []) $ split ! $
          -- [the mark; a share; the pass's key; its ticket; what was reached; the book; the invariant; the way back; half of κ's token; κ]
          move ! (3 ∷ []) $ bor_new ! tt μ $ move ! (10 ∷ 0 ∷ 9 ∷ []) $ use3 𝓛 (later (‵ (fbor κ Tk) ⊛ ‵ (flft κ qr))) (bor-before 𝓛 κ μ qr Tk) $ await ! tt $ split ! $
          -- [the ticket's borrow; half of κ's token; the loan; the mark; a share; the pass's key; what was reached; the book; the invariant; the way back]
          move ! (8 ∷ 3 ∷ 2 ∷ 4 ∷ []) $ group ! 4 $
          use1 𝓛 (later (‵ (flft μ l) ⊛ ‵ (flft μ r))) (opened i B (⟦ mark 𝓛 n seen μ δ (suc j) (l ∷ []) ⟧ ∗ ⟦ flent μ Tk ⟧ ∗ ⟦ flft μ r ⟧) (⟦ flft μ l ⟧ ∗ ⟦ flft μ r ⟧) (settles 𝓛 n seen μ δ l r j)) $ await ! tt $ split ! $
          use2 𝓛 (‵ (flft μ s)) (𝓛.lfts.lft_join μ s) $
          -- [its token; the ticket's borrow; half of κ's token; the pass's key; what was reached; the book; the way back]
          move ! (0 ∷ 6 ∷ []) $ use2 𝓛 (later (‵ (flft κ ql))) (apply∗ 𝓤 (A.lft μ s) (H.⇛ (A.lft κ ql))) $ await ! tt $ move ! (0 ∷ 2 ∷ []) $ use2 𝓛 (‵ (flft κ q)) (𝓛.lfts.lft_join κ q) $
          -- [κ's token; the ticket's borrow; the pass's key; what was reached; the book]
          move ! (1 ∷ []) $ rewrite ! 0 (λ (P : Fml). ‵ P) (sym (same_loan n.gate κ p x is)) refl $
          nothing ! $ fpack ! (IsPrefix x x × (mine (start n) p x ≡ mine (start n) p x)) (λ _. ftrue) (prefix_refl x, refl) $ move ! (1 ∷ 0 ∷ []) $ fjoin ! $ move ! (2 ∷ []) $ fsplit ! $ move ! (0 ∷ 4 ∷ 2 ∷ []) $ fjoin3 ! $ fpack ! (List Entry) (lent_at n κ p x) x $ move ! (3 ∷ 0 ∷ []) $ fjoin ! $
          now ! $ show ! Lent (p, x) $ check ! (is, so.0, so.1 passes p (omega arith)) $ keep ! (0 ∷ 2 ∷ []) $ done !))))))

      -- and it looks at the list
      abbrev pub IsGiven : ℕ × List Entry → Type 0
      IsGiven t = ¬ (t.0 ≡ 0) × (mine (start n) t.0 t.1 ≡ []) × GoesOnTo n seen t.1

      abbrev pub Given : ℕ × List Entry → Pr
      Given t = guard 𝓤 (IsGiven t) (⟦ lent_pass n κ t.0 t.1 ⟧ ∗ A.lft κ q)

      pub gives_pass : ⟦ porter_shares n false seen κ ⟧ ∗ A.lft κ q ⊢ H.⇛ (ex 𝓤 Given)
      gives_pass = qed 𝓛 (‵ (porter_shares n false seen κ) ∷ ‵ (flft κ q) ∷ []) ∵ updating ! $
          use2 𝓛 (later (some (λ (t : ℕ × List Entry). given (IsFresh t) (‵ (lent_pass n κ t.0 t.1) ⊛ ‵ (flft κ q))))) lends_pass $ await ! tt $ pick ! (λ t. learn ! (λ so. split ! $
          use2 𝓛 (later (‵ (pass_owns n t.0 t.1) ⊛ ‵ (waits n.gate κ q t.0))) (ticket_opened 𝓛 n t.0 t.1 κ q) $ await ! tt $ split ! $ nothing ! $ move ! (1 ∷ 0 ∷ []) $
          use2 𝓛 (later (some (λ (log : List Entry). given (Before n t.0 t.1 [] log × IsDistinct 𝓛 n) (‵ (pass_owns n t.0 log) ⊛ ‵ ftrue)))) (looks_now 𝓛 n t.0 t.1 [] tt) $ await ! tt $ pick ! (λ log. learn ! (λ is. split ! $
          -- [the pass; nothing; what waits]
          let on : GoesOnTo n seen log = record { grows = prefix_trans seen t.1 log so.1 is.0.grows; legal = is.0.legal; sound = is.0.sound; lent = is.0.lent; distinct = is.1 } in
          move ! (0 ∷ 2 ∷ []) $ use2 𝓛 (later (‵ (lent_pass n κ t.0 log) ⊛ ‵ (flft κ q))) (closed 𝓛 n t.0 log κ q) $ await ! tt $ split ! $
          now ! $ show ! Given (t.0, log) $ check ! (so.0, is.0.none_made ∙ so.2, on) $ keep ! (0 ∷ 1 ∷ []) $ done !))))

      -- a pass looks at the list, which goes on from what the porter has seen, with nothing of the first pass
      abbrev pub IsSince : ℕ → List Entry → List Entry → Type 0
      IsSince p x log = Before n p x [] log × IsDistinct 𝓛 n × IsPrefix seen log × (mine (start n) 0 log ≡ mine (start n) 0 seen)

      abbrev pub Since : ℕ → List Entry → List Entry → Pr
      Since p x log = guard 𝓤 (IsSince p x log) (⟦ pass_owns n p log ⟧ ∗ ⟦ permits n log ⟧ ∗ A.lft κ q)

      pub looks_on : (p : ℕ) (x : List Entry) → ⟦ porter_shares n false seen κ ⟧ ∗ ⟦ pass_owns n p x ⟧ ∗ A.lft κ q ⊢ H.⇛ (ex 𝓤 (Since p x))
      looks_on p x = qed 𝓛 (‵ (porter_shares n false seen κ) ∷ ‵ (pass_owns n p x) ∷ ‵ (flft κ q) ∷ []) ∵ updating ! $ fpick ! (λ t.
          let μ : Lft = t.0 ∷ [] in let i : ℕ = period_number n t.1.0 in let δ : ℕ = t.1.1 in let B : Fml = period n seen μ δ in let J : Fml = inside n in fsplit ! $ move ! (1 ∷ []) $ fsplit ! $
          -- [the period; what the porter knows; κ; the pass; its token]
          move ! (3 ∷ 1 ∷ []) $ use2 𝓛 (later (some (λ (z : List Entry). given (Longer x seen z × (mine (start n) p z ≡ mine (start n) p x) × (IsSole p → z ≡ x) × IsLegalList (start n) z) (‵ (pass_owns n p z) ⊛ ‵ Known)))) (hears 𝓛 n p x seen) $
          await ! tt $ pick ! (λ z. learn ! (λ heard. split ! $ fsplit ! $ use1 𝓛 (given (IsDistinct 𝓛 n) (‵ (knows n))) (distinct_links 𝓛 n) $ learn ! (λ distinct. use1 𝓛 (‵ (knows n) ⊛ ‵ (knows n)) (knows_twice 𝓛 n) $ split ! $ fsplit ! $ move ! (1 ∷ []) $ drop ! $
          -- [the book's invariant; the book; the pass; what the porter knows; the period; κ; its token]
          move ! (5 ∷ 6 ∷ []) $ use2 𝓛 (later (some (λ (s : Share). ‵ (flft μ s) ⊛ raw (wand 𝓤 (A.lft μ s) (H.⇛ (A.lft κ q)))))) (Lends-one 𝓛 𝓜 𝓡 κ μ q) $ await ! tt $ pick ! (λ s. split ! $
          -- [a share of the period's; the way back; the book's invariant; the book; the pass; what the porter knows; the period]
          move ! (6 ∷ 2 ∷ 4 ∷ 0 ∷ []) $ group ! 4 $
          use1 𝓛 (later (some (λ (log : List Entry). given (Before n p z [] log × (mine (start n) 0 log ≡ mine (start n) 0 seen)) (‵ (pass_holds n p log) ⊛ ‵ (permits n log) ⊛ ‵ (flft μ s)))))
          (both_opened i n.number B J (⟦ pass_holds n p z ⟧ ∗ ⟦ flft μ s ⟧) (ex 𝓤 (Shown 𝓛 n seen μ δ p z s)) (λ e. omega (arith, e)) (shows 𝓛 n seen μ δ p z s)) $ await ! tt $ pick ! (λ log. learn ! (λ so. split3 ! $
          -- [the pass; the permits; the share; the way back; the book; what the porter knows]
          move ! (2 ∷ 3 ∷ []) $ use2 𝓛 (later (‵ (flft κ q))) (apply∗ 𝓤 (A.lft μ s) (H.⇛ (A.lft κ q))) $ await ! tt $ move ! (3 ∷ 1 ∷ []) $ fjoin ! $
          -- [the pass; its token; the permits; what the porter knows]
          now ! $ show ! (Since p x) log $ check ! (before_that n p x z [] log (longer_left x seen z heard.0) heard.1 heard.2 so.0, distinct, prefix_trans seen z log (longer_right x seen z heard.0) so.0.grows, so.1) $ keep ! (0 ∷ 2 ∷ 1 ∷ []) $ done !)))))))

  -- ---- whatever it is
  module _ (n : Name) (seen : List Entry) where
    is_off : (home : Bool) → ⟦ porter_has n home seen ⟧ ⊢ H.⇛ ⟦ porter_owns n false 0 seen ⟧
    is_off true = porter_off 𝓛 n true 0 seen
    is_off false = stops n seen

    pub goes_off : (home : Bool) → ⟦ porter_has n home seen ⟧ ⊢ H.⇛ ⟦ porter_has n false seen ⟧
    goes_off home = qed 𝓛 (‵ (porter_has n home seen) ∷ []) ∵ updating ! $ use1 𝓛 (later (‵ (porter_owns n false 0 seen))) (is_off home) $ await ! tt $
        use1 𝓛 (later (‵ (porter_has n false seen))) (starts n seen) $ await ! tt $ now ! $ done !

    abbrev pub Home : Bool → List Entry → Pr
    Home home log = guard 𝓤 (IsHome 𝓛 n home seen log) ⟦ porter_owns n true 0 log ⟧

    pub goes_home : (home : Bool) → ⟦ porter_has n home seen ⟧ ⊢ H.⇛ (ex 𝓤 (Home home))
    goes_home true = porter_home 𝓛 n true seen
    goes_home false = qed 𝓛 (‵ (porter_has n false seen) ∷ []) ∵ updating ! $ use1 𝓛 (later (‵ (porter_owns n false 0 seen))) (stops n seen) $ await ! tt $
        use1 𝓛 (later (some (λ (log : List Entry). given (IsHome 𝓛 n false seen log) (‵ (porter_owns n true 0 log))))) (porter_home 𝓛 n false seen) $ await ! tt $ pick ! (λ log. learn ! (λ so.
        now ! $ show ! (Home false) log $ check ! so $ done !))

pub porter_laws : (n : Name) (home : Bool) (seen : List Entry) → ShrLaws (porter_shares n home seen)
porter_laws n true seen = nothing_shr_laws
porter_laws n false seen = record { contraction = λ M 𝓤 𝓛 κ. twice 𝓛 n seen κ; mono = λ M 𝓤 𝓛 κ' κ. shorter 𝓛 n seen κ' κ }
