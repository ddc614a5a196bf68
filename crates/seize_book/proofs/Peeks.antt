-- A `&` to keys shows where the numbers of their values lead, and what is lent with these. Assumes `Logic`.
use Rattle.std.proofs.Common.{◌≡◌, ℕ, zero, suc, Bool, true, false, ◌==◌, List, [], ◌∷◌, ◌++◌, map, refl}
use seplogic.Ra.Ura.{Ura}
use base.Before.{before}
use base.Fml.{Lft, Share, Fml, ftrue, fsep, fseps, fex, fwand, fupd, fdead, flft, fbor}
use base.Fraction.{full_share}
use base.Logic.{SProp, ent, sep, ex, guard, wand, upd_i, id⊢, apply∗}
use base.Share
use base.Stored.{Gv}
use contract.BorrowLft.{meet_⊑_left}
use denote.Sharing.{ShrLaws, said}
use denote.SharingLaws.{beside_shr_laws, ends_shr_laws, nothing_shr_laws}
use denote.Steps.{nothing}
use denote.Struct.Lending.{Lends, Lends-both, Lends-first, Lends-nothing}
use ghost.Rules.{span, thinned}
use types.Kit.{‵, raw, ◌⊛◌, some, later, ◌$◌, ◌∵◌, !, qed, move, keep, drop, use0, use1, use2, split, group, fsplit, fsplit3, fjoin, fpick, fpack, frame, show, check, pick, assume, suffices, await, updating, now, done}
use types.Logic.{Logic, sem, lfts}
use types.Na.{before-Incl, before_lent, before_dup}
use types.Tokens.{bor_open, obor_alter, bor_fracture, one_token}
use Rattle.seize_content.specs.Contents.{sight_owns, stay, ticket_owns}
use Rattle.seize_content.specs.Readers.{pool, share_left}
use Rattle.seize_content.specs.Stages.{lent}
use Rattle.seize_content.proofs.Places.{stay_twice}
use Rattle.seize_machine.specs.Machine.State.{State}
use Rattle.seize_machine.proofs.Facts.{and_true}
use Rattle.seize_book.specs.Book.{blocks}
use Rattle.seize_book.specs.Entry.{Entry}
use Rattle.seize_book.specs.Ledger.{HeldKey}
use Rattle.seize_book.specs.Loans.{Carries, CarriesNone, Loan, lent_as, loan_if, loan_of, readers}
use Rattle.seize_book.specs.Peeks.{keys_show, show_if, sight_if, sight_of}
use Rattle.seize_book.specs.Permits.{all_permitted, permit_if}
use Rattle.seize_book.specs.Private.{are_of_blocks, is_one, label_of, labels_of}
use Rattle.seize_book.specs.Tokens.{Name, key, keys_own, leads, lies_if, is_placed, key_note, start, way, way_if}
use Rattle.seize_book.proofs.Sharing.{lends_twice}
use Rattle.seize_book.proofs.Ways.{lead_twice}

-- What is seen can be seen twice, and for a shorter time.

pub sight_laws : (k v : ℕ) → ShrLaws (λ κ. sight_if k κ v)
sight_laws zero v = nothing_shr_laws
sight_laws (suc k) v = record {
  contraction = λ M 𝓤 𝓛 κ. qed 𝓛 (‵ (sight_if (suc k) κ v) ∷ []) ∵ fpick ! (λ t. let γ : ℕ = t.0 in let a : ℕ = t.1.0 in let g : Gv = t.1.1 in
      fsplit ! $ fpick ! (λ carries. drop ! $ fsplit ! $ use1 𝓛 (‵ (before κ (a ∷ [])) ⊛ ‵ (before κ (a ∷ []))) (before_dup 𝓛 κ (a ∷ [])) $ split ! $
      move ! (2 ∷ []) $ use1 𝓛 (‵ (stay γ a g) ⊛ ‵ (stay γ a g)) (stay_twice 𝓛 γ a g) $ split ! $
      -- [what is known, twice; the lifetimes, twice]
      move ! (2 ∷ 0 ∷ []) $ fjoin ! $ nothing ! $ fpack ! (Carries v γ g) (λ _. ftrue) carries $ move ! (0 ∷ 1 ∷ []) $ fjoin ! $ fpack ! (ℕ × (ℕ × Gv)) (sight_of κ v) t $ frame ! $
      move ! (1 ∷ 0 ∷ []) $ fjoin ! $ nothing ! $ fpack ! (Carries v γ g) (λ _. ftrue) carries $ move ! (0 ∷ 1 ∷ []) $ fjoin ! $ fpack ! (ℕ × (ℕ × Gv)) (sight_of κ v) t $ done !));
  mono = λ M 𝓤 𝓛 κ' κ. qed 𝓛 (‵ (before κ' κ) ∷ ‵ (sight_if (suc k) κ v) ∷ []) ∵ move ! (1 ∷ []) $ fpick ! (λ t. let γ : ℕ = t.0 in let a : ℕ = t.1.0 in let g : Gv = t.1.1 in
      fsplit ! $ fpick ! (λ carries. drop ! $ fsplit ! $
      -- [the loan's lifetime; what is known; the shorter one]
      move ! (2 ∷ 0 ∷ []) $ use2 𝓛 (‵ (before κ' (a ∷ []))) ((ends_shr_laws (a ∷ [])).mono M 𝓤 𝓛 κ' κ) $ fjoin ! $
      nothing ! $ fpack ! (Carries v γ g) (λ _. ftrue) carries $ move ! (0 ∷ 1 ∷ []) $ fjoin ! $ fpack ! (ℕ × (ℕ × Gv)) (sight_of κ' v) t $ done !));
}

lead_laws : (n : Name) (v : ℕ) → ShrLaws (said (leads n v))
lead_laws n v = record { contraction = λ M 𝓤 𝓛 κ. lead_twice 𝓛 n v; mono = λ M 𝓤 𝓛 κ' κ. qed 𝓛 (‵ (before κ' κ) ∷ ‵ (leads n v) ∷ []) ∵ keep ! (1 ∷ []) $ done ! }

show_laws : (b : Bool) (n : Name) (v : ℕ) → ShrLaws (show_if b n v)
show_laws true n v = beside_shr_laws (said (leads n v)) (λ κ. sight_if (loan_of v) κ v) (lead_laws n v) (sight_laws (loan_of v) v)
show_laws false n v = nothing_shr_laws

pub keys_laws : (n : Name) (held : List (HeldKey Entry)) → ShrLaws (keys_show n held)
keys_laws n [] = nothing_shr_laws
keys_laws n (h ∷ held) = beside_shr_laws (show_if (h.kind == blocks) n h.label) (keys_show n held) (show_laws (h.kind == blocks) n h.label) (keys_laws n held)

-- What is left of a loan's token stands beside the key.

module _ {M : Type 1} {𝓤 : Ura M} (𝓛 : Logic 𝓤) where
  open 𝓛 use {H, A}

  abbrev ⟦◌⟧ : Fml → SProp 𝓤
  ⟦ P ⟧ = sem 𝓛 P

  abbrev ◌⊢◌ : SProp 𝓤 → SProp 𝓤 → Type 1
  P ⊢ Q = ent 𝓤 P Q

  abbrev ◌∗◌ : SProp 𝓤 → SProp 𝓤 → SProp 𝓤
  P ∗ Q = sep 𝓤 P Q

  infix 26 ◌⊢◌
  infixr 35 ◌∗◌
  abbrev Left : ℕ → Share → List (Lft × ℕ) → SProp 𝓤
  Left a r ds = wand 𝓤 (A.lft (a ∷ []) (share_left r ds)) ⟦ pool a r ds ⟧

  pool_left : (a : ℕ) (r : Share) (ds : List (Lft × ℕ)) → ⟦ pool a r ds ⟧ ⊢ A.lft (a ∷ []) (share_left r ds) ∗ Left a r ds
  pool_left a r [] = qed 𝓛 (‵ (flft (a ∷ []) r) ∷ []) ∵ frame ! $ assume ! (‵ (flft (a ∷ []) r)) $ done !
  pool_left a r (d ∷ ds) = qed 𝓛 (‵ (pool a r (d ∷ ds)) ∷ []) ∵ fsplit ! $ move ! (1 ∷ []) $
      use1 𝓛 (‵ (flft (a ∷ []) (share_left (Share.left r) ds)) ⊛ raw (Left a (Share.left r) ds)) (pool_left a (Share.left r) ds) $ split ! $ frame ! $
      -- [the way back; the right to the escrow]
      assume ! (‵ (flft (a ∷ []) (share_left (Share.left r) ds))) $ move ! (0 ∷ 1 ∷ []) $
      use2 𝓛 (‵ (pool a (Share.left r) ds)) (apply∗ 𝓤 (A.lft (a ∷ []) (share_left (Share.left r) ds)) ⟦ pool a (Share.left r) ds ⟧) $ move ! (1 ∷ 0 ∷ []) $ fjoin ! $ done !

  module _ (st : State) (η v : ℕ) where
    abbrev Owns : Fml
    Owns = fex Loan (lent_as st η v)

    module _ (l : Loan) (carries : Carries v l.content l.code) where
      abbrev α : Lft
      α = l.life ∷ []

      abbrev e : Share
      e = share_left full_share l.readers

      abbrev Again : Lft → Fml
      Again κ = fwand (fsep (fdead κ) (fseps (flft α e ∷ []))) (fupd Owns)

      again : (κ : Lft) → Left l.life full_share l.readers ∗ ⟦ stay l.content l.life l.code ⟧ ∗ ⟦ readers st η v l.readers ⟧ ∗ ⟦ ticket_owns l.content (lent l.life l.code) ⟧ ⊢ ⟦ Again κ ⟧
      unfolding fseps
      again κ = qed 𝓛 (raw (Left l.life full_share l.readers) ∷ ‵ (stay l.content l.life l.code) ∷ ‵ (readers st η v l.readers) ∷ ‵ (ticket_owns l.content (lent l.life l.code)) ∷ []) ∵
          assume ! (‵ (fsep (fdead κ) (fsep (flft α e) ftrue))) $ suffices ! ⟦ Owns ⟧ (upd_i 𝓤 ⟦ Owns ⟧) $ fsplit3 ! $
          -- [κ is over; the token; nothing; the way back; what is known; the readers; the ticket]
          keep ! (1 ∷ 3 ∷ 4 ∷ 5 ∷ 6 ∷ []) $ use2 𝓛 (‵ (pool l.life full_share l.readers)) (apply∗ 𝓤 (A.lft α e) ⟦ pool l.life full_share l.readers ⟧) $
          fjoin ! $ fjoin ! $ move ! (1 ∷ 0 ∷ []) $ fjoin ! $ nothing ! $ fpack ! (Carries v l.content l.code) (λ _. ftrue) carries $ move ! (0 ∷ 1 ∷ []) $ fjoin ! $ fpack ! Loan (lent_as st η v) l $ done !

    by_token : (k : ℕ) (κ : Lft) (q : Share) → A.bor κ Owns ∗ A.lft κ q ⊢ H.⇛ (⟦ sight_if (suc k) κ v ⟧ ∗ A.lft κ q)
    unfolding fseps
    by_token k κ q = qed 𝓛 (‵ (fbor κ Owns) ∷ ‵ (flft κ q) ∷ []) ∵ updating ! $ bor_open ! tt $ move ! (1 ∷ []) $ fpick ! (λ l. fsplit ! $ fpick ! (λ carries. drop ! $
        let c : ℕ = l.content in let a : ℕ = l.life in let g : Gv = l.code in let ν : Lft = a ∷ [] in let r : Share = share_left full_share l.readers in
        fsplit ! $ move ! (1 ∷ []) $ fsplit ! $ fsplit ! $
        -- [the pool; what is known; the readers; the ticket; the open borrow]
        use1 𝓛 (‵ (flft ν r) ⊛ raw (Left a full_share l.readers)) (pool_left a full_share l.readers) $ split ! $ move ! (2 ∷ []) $
        use1 𝓛 (‵ (stay c a g) ⊛ ‵ (stay c a g)) (stay_twice 𝓛 c a g) $ split ! $
        -- [what is known, twice; the token; the way back; the readers; the ticket; the open borrow]
        move ! (3 ∷ 0 ∷ 4 ∷ 5 ∷ []) $ group ! 4 $ use1 𝓛 (‵ (Again l carries κ)) (again l carries κ) $
        -- [all the way back; what is known; the token; the open borrow]
        nothing ! $ move ! (3 ∷ 0 ∷ []) $ fjoin ! $ move ! (3 ∷ 0 ∷ 1 ∷ []) $ obor_alter ! tt (flft ν r ∷ []) $
        use1 𝓛 (‵ (fbor κ (flft ν r)) ⊛ ‵ ftrue) (id⊢ 𝓤 _) $ split ! $ bor_fracture ! tt (λ s. flft ν s) r $
        -- [shares of the token; nothing; κ's token; what is known]
        use0 𝓛 (‵ (before (ν ++ κ) ν)) (before-Incl 𝓛 (ν ++ κ) ν (meet_⊑_left ν κ)) $ move ! (1 ∷ 0 ∷ []) $ use2 𝓛 (‵ (before κ ν)) (before_lent 𝓛 κ ν ν) $
        move ! (0 ∷ 3 ∷ []) $ fjoin ! $ nothing ! $ fpack ! (Carries v c g) (λ _. ftrue) carries $ move ! (0 ∷ 1 ∷ []) $ fjoin ! $ fpack ! (ℕ × (ℕ × Gv)) (sight_of κ v) (c, (a, g)) $
        now ! $ keep ! (0 ∷ 2 ∷ []) $ done !))

    Lends-some : (k : ℕ) (l : Lft) → Lends 𝓛 Owns (λ κ. sight_if (suc k) κ v) l
    Lends-some k l κ ts inc sp = qed 𝓛 (‵ (fbor κ Owns) ∷ raw (lfts 𝓛 ts) ∷ []) ∵ updating ! $ move ! (1 ∷ []) $
        use1 𝓛 (some (λ (q : Share). ‵ (flft (span ts) q) ⊛ raw (wand 𝓤 (A.lft (span ts) q) (lfts 𝓛 ts)))) (one_token 𝓛 ts) $ pick ! (λ q. split ! $
        use1 𝓛 (‵ (flft κ (thinned κ q)) ⊛ raw (wand 𝓤 (A.lft κ (thinned κ q)) (A.lft (span ts) q))) (𝓛.lfts.lft-incl (span ts) κ q sp) $ split ! $ move ! (3 ∷ 0 ∷ []) $
        use2 𝓛 (later (‵ (sight_if (suc k) κ v) ⊛ ‵ (flft κ (thinned κ q)))) (by_token k κ (thinned κ q)) $ await ! tt $ split ! $ move ! (1 ∷ 2 ∷ []) $
        use2 𝓛 (‵ (flft (span ts) q)) (apply∗ 𝓤 (A.lft κ (thinned κ q)) (A.lft (span ts) q)) $ move ! (0 ∷ 2 ∷ []) $ use2 𝓛 (raw (lfts 𝓛 ts)) (apply∗ 𝓤 (A.lft (span ts) q) (lfts 𝓛 ts)) $
        now ! $ move ! (1 ∷ 0 ∷ []) $ done !)

    Lends-loan : (k : ℕ) (l : Lft) → Lends 𝓛 (loan_if k st η v) (λ κ. sight_if k κ v) l
    Lends-loan zero l = Lends-nothing 𝓛 ftrue l
    Lends-loan (suc k) l = Lends-some k l

  Lends-second : (F G : Fml) (t : Lft → Fml) (l : Lft) → Lends 𝓛 G t l → Lends 𝓛 (fsep F G) t l
  Lends-second F G t l lends κ ts inc sp = qed 𝓛 (‵ (fbor κ (fsep F G)) ∷ raw (lfts 𝓛 ts) ∷ []) {P = H.⇛ (⟦ t κ ⟧ ∗ lfts 𝓛 ts)} (updating ! $
      use2 𝓛 (later (‵ (fsep ftrue (t κ)) ⊛ raw (lfts 𝓛 ts))) (Lends-both 𝓛 F G (λ _. ftrue) t l (Lends-nothing 𝓛 F l) lends κ ts inc sp) $ await ! tt $ split ! $
      fsplit ! $ drop ! $ now ! $ done !)

  module _ (n : Name) (l : Lft) where
    Lends-way : (b : Bool) (v : ℕ) → Lends 𝓛 (way_if b n v) (show_if b n v) l
    Lends-way true v = Lends-both 𝓛 (leads n v) (loan_if (loan_of v) (start n) n.log v) (said (leads n v)) (λ κ. sight_if (loan_of v) κ v) l
        (lends_twice 𝓛 (leads n v) (lead_twice 𝓛 n v) l) (Lends-loan (start n) n.log v (loan_of v) l)
    Lends-way false v = Lends-nothing 𝓛 ftrue l

    pub Lends-keys : (held : List (HeldKey Entry)) → Lends 𝓛 (keys_own n held) (keys_show n held) l
    Lends-keys [] = Lends-nothing 𝓛 ftrue l
    Lends-keys (h ∷ held) =
        let b : Bool = h.kind == blocks in let rest : Fml = fsep (lies_if (is_placed h) n h.key) (key_note h) in
        Lends-both 𝓛 (fsep (key n h.kind h.key h.own) (way n h)) (keys_own n held) (show_if b n h.label) (keys_show n held) l
        (Lends-second (key n h.kind h.key h.own) (way n h) (show_if b n h.label) l (Lends-first 𝓛 (way_if b n h.label) rest (show_if b n h.label) l (Lends-way b h.label)))
        (Lends-keys held)

-- What is lent with a value is seen.

module _ {M : Type 1} {𝓤 : Ura M} (𝓛 : Logic 𝓤) (κ : Lft) where
  abbrev pub Sights : ℕ → ℕ × (ℕ × Gv) → SProp 𝓤
  Sights v t = guard 𝓤 (Carries v t.0 t.1.1) (sem 𝓛 (sight_owns κ t.0 t.1.0 t.1.1))

  lent_one : (k v : ℕ) → ¬ (k ≡ 0) → ent 𝓤 (sem 𝓛 (sight_if k κ v)) (ex 𝓤 (Sights v))
  lent_one zero v ne = absurd (ne refl)
  lent_one (suc k) v ne = qed 𝓛 (‵ (sight_if (suc k) κ v) ∷ []) ∵ fpick ! (λ t. fsplit ! $ fpick ! (λ carries. drop ! $ show ! (Sights v) t $ check ! carries $ done !))

  pub sights : (v : ℕ) → ¬ (CarriesNone v) → ent 𝓤 (sem 𝓛 (sight_if (loan_of v) κ v)) (ex 𝓤 (Sights v))
  sights v its = lent_one (loan_of v) v its

-- What is shown of one key of a block.

module _ {M : Type 1} {𝓤 : Ura M} (𝓛 : Logic 𝓤) (n : Name) (κ : Lft) where
  shows_if : (b : Bool) (v : ℕ) → b ≡ true → ent 𝓤 (sem 𝓛 (show_if b n v κ)) (sep 𝓤 (sem 𝓛 (leads n v)) (sem 𝓛 (sight_if (loan_of v) κ v)))
  shows_if true v is = qed 𝓛 (‵ (show_if true n v κ) ∷ []) ∵ fsplit ! $ done !
  shows_if false v is = absurd (cc)

  pub shows : (held : List (HeldKey Entry)) → is_one blocks held ≡ true → ent 𝓤 (sem 𝓛 (keys_show n held κ)) (sep 𝓤 (sem 𝓛 (leads n (label_of held))) (sem 𝓛 (sight_if (loan_of (label_of held)) κ (label_of held))))
  shows [] one = absurd (cc)
  shows (x ∷ y ∷ held) one = absurd (cc)
  shows (h ∷ []) one = qed 𝓛 (‵ (keys_show n (h ∷ []) κ) ∷ []) ∵ fsplit ! $ use1 𝓛 (‵ (leads n h.label) ⊛ ‵ (sight_if (loan_of h.label) κ h.label)) (shows_if (h.kind == blocks) h.label one) $ split ! $ keep ! (0 ∷ 1 ∷ []) $ done !

  permit_shown : (b : Bool) (v : ℕ) → b ≡ true → ent 𝓤 (sem 𝓛 (show_if b n v κ)) (sem 𝓛 (permit_if n.permits (loan_of v)))
  permit_shown true v is = qed 𝓛 (‵ (show_if true n v κ) ∷ []) ∵ fsplit ! $ fsplit ! $ move ! (1 ∷ []) $ keep ! (0 ∷ []) $ done !
  permit_shown false v is = absurd (cc)

  -- that what is lent may be
  pub permits_shown : (held : List (HeldKey Entry)) → are_of_blocks held ≡ true → ent 𝓤 (sem 𝓛 (keys_show n held κ)) (sem 𝓛 (all_permitted n.permits (map loan_of (labels_of held))))
  permits_shown [] are = qed 𝓛 (‵ ftrue ∷ []) ∵ done !
  permits_shown (h ∷ held) are = let both = and_true _ _ are in qed 𝓛 (‵ (keys_show n (h ∷ held) κ) ∷ []) ∵ fsplit ! $
      use1 𝓛 (‵ (permit_if n.permits (loan_of h.label))) (permit_shown (h.kind == blocks) h.label (and_true _ _ both.0).0) $ move ! (1 ∷ []) $
      use1 𝓛 (‵ (all_permitted n.permits (map loan_of (labels_of held)))) (permits_shown held both.1) $ move ! (1 ∷ 0 ∷ []) $ fjoin ! $ done !
