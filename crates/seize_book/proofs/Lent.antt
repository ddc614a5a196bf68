-- How the parameters of a call that runs nothing are lent to its proof. Most types here own something beside a marker without bytes: then the
-- marker waits, and the proof has the rest. Assumes `Logic`.
--     whole          a `&mut` at the lifetime j to a value of any type: its proof has what the value owns, and picks the next value
--     held           the same of a type with a marker, by what it owns beside it;  keys  of keys
--     pass           a `&mut` to a pass, with its ticket in hand. The proof picks what it has seen then;  adder  the same, to add an event
--     shown          a `&`: the proof has what is shared beside the marker, and the token of its lifetime
--     taken          a value of no bytes that the call takes;  number  one of eight bytes
--     beside, along  a parameter whose type has a further lifetime: its token waits;  its proof has it
use Rattle.seize_book.proofs.Kit.{ℕ, ◌≡◌, ◌++◌, use1, List, [], ◌∷◌, refl, sym, named, named_lft, NamedLft, Val, Ura, Logic, Fml, Share, ftrue, fsep, flft, ‵, ◌⊛◌, ◌$◌, ◌∵◌, !, qed, move, keep, split, rewrite, fsplit, fsplit3, fjoin, fjoin3, feq_i, fpack, fpick, join, use2, later, await, Lfts, plain, mut_vals, mut_Tells, shr_vals, shr_Tells, opens, closes, stay_ref, stay_dropped, Goes-ref, Goes-dropped, RattleType, u64, w64, uint_vals, uint_Tells, yes, done, nothing, unhide}
use Rattle.std.proofs.Common.{zero, suc}
use base.Fml.{Lft, feq, fex, fhide, fauth, fbor, fobor, fobs}
use base.Fraction.{full_share}
use contract.Lifetimes.{Shares, Within, lft_at}
use denote.Memory.{cell_at, mem, shared_of}
use denote.Exit.{Kept, Last, left}
use denote.Laws.{Is, Tells}
use denote.MutBor.{MutBor}
use denote.RawPtr.{Ptr, block_ptr}
use denote.Bor.{Bor}
use denote.Ref.{at_last}
use denote.Signature.{Slot, mut_ref_to, shr_ref_to}
use types.Kit.{now, updating}
use types.SemTy.{Body}
use Rattle.seize_book.specs.Entry.{Entry}
use Rattle.seize_book.specs.Bounds.{had_size}
use Rattle.seize_book.specs.Tokens.{adder_owns, keys_own, pass_owns}
use Rattle.seize_book.specs.contracts.book.keys.Keys as Keys
use Rattle.seize_book.specs.contracts.book.pass.Pass as Pass
use Rattle.seize_book.proofs.Bounds.{had_twice}
use Rattle.seize_book.proofs.Borrowed.{Mark, beside_open, opens_pass, closes_pass}
use Rattle.seize_book.proofs.Calls.{Way, all, apart, together}
use Rattle.seize_book.proofs.Fields.{no_bytes, token}

abbrev pub share_at : (n j : ℕ) → Within n j → Shares n → Share
share_at zero j ok qs = absurd ok
share_at (suc n) zero ok qs = qs.0
share_at (suc n) (suc j) ok qs = share_at n j ok qs.1

-- what waits of a `&mut` while it is open
abbrev waiting : Lft → Share → (R : RattleType) (x : MutBor R.Denot) → List Val → Fml
waiting κ q R x vs = fsep (cell_at full_share R.mir vs x.ref_ptr.0 x.ref_ptr.1) (fsep (fobor κ q (Body (mem R) x.ref_ptr.0 x.ref_ptr.1 x.ghost_name)) (fsep (fobs x.ghost_name (R.coded.code x.now)) (fauth x.ghost_name (R.coded.code x.now))))

module _ {M : Type 1} {𝓤 : Ura M} (𝓛 : Logic 𝓤) {n : ℕ} (j : ℕ) (ok : Within n j) where
  abbrev pub whole : (A : Lfts n → RattleType) → Way 𝓛 (mut_ref_to (j ∷ []) ok (plain A)) yes
  whole A = record {
    stay = stay_ref (j ∷ []) ok (plain A);
    goes = Goes-ref 𝓛 n j ok (plain A);
    spell = λ κs. mut_vals;
    tells = λ κs. mut_Tells (named j) (lft_at n j ok κs) (A κs);
    tokens = λ κs qs. flft (lft_at n j ok κs) (share_at n j ok qs) ∷ [];
    Open = List Val;
    New = λ κs. (A κs).Denot;
    last = λ κs x z. z;
    fits = λ κs x z. tt;
    had = λ κs qs x vs. (A κs).own_val x.now vs ∷ [];
    rest = λ κs qs x vs. waiting (lft_at n j ok κs) (share_at n j ok qs) (A κs) x vs;
    back = λ κs qs x vs z. (A κs).own_val z vs ∷ [];
    opens = λ κs qs x. let R = A κs in
        qed 𝓛 (‵ (fsep (feq (List Val) (mut_vals x) (mut_vals x)) (fsep (fobs x.ghost_name (R.coded.code x.now)) (fbor (lft_at n j ok κs) (Body (mem R) x.ref_ptr.0 x.ref_ptr.1 x.ghost_name)))) ∷ ‵ (fsep (flft (lft_at n j ok κs) (share_at n j ok qs)) ftrue) ∷ []) ∵ updating ! $ fsplit3 ! $ move ! (3 ∷ []) $ fsplit ! $
        move ! (3 ∷ 4 ∷ 0 ∷ []) $ opens ! tt R x.ref_ptr.0 x.ref_ptr.1 (λ vs. move ! (3 ∷ 4 ∷ []) $ fjoin ! $ move ! (3 ∷ 0 ∷ []) $ fjoin ! $ move ! (1 ∷ 0 ∷ []) $ fjoin ! $
        -- [what waits; what it owns]
        nothing ! $ move ! (2 ∷ 0 ∷ []) $ fjoin ! $ move ! (0 ∷ 1 ∷ []) $ fjoin ! $ fpack ! (List Val) (λ us. fsep (fsep (R.own_val x.now us) ftrue) (waiting (lft_at n j ok κs) (share_at n j ok qs) R x us)) vs $ keep ! (0 ∷ []) $ now ! $ done !);
    closes = λ κs qs x vs z. let R = A κs in
        qed 𝓛 (‵ (fsep (R.own_val z vs) ftrue) ∷ ‵ (waiting (lft_at n j ok κs) (share_at n j ok qs) R x vs) ∷ []) ∵ updating ! $ fsplit ! $ move ! (2 ∷ []) $ fsplit3 ! $ move ! (2 ∷ []) $ fsplit ! $
        -- [its two names; its cell; its borrow; what it owns; nothing]
        move ! (2 ∷ 4 ∷ 3 ∷ 0 ∷ 1 ∷ []) $ closes ! tt R z vs x.ref_ptr.0 x.ref_ptr.1 $ nothing ! $ move ! (3 ∷ 0 ∷ []) $ fjoin ! $ feq_i ! (List Val) (mut_vals x) (mut_vals x) refl $ move ! (0 ∷ 2 ∷ 3 ∷ 1 ∷ []) $ fjoin3 ! $ keep ! (0 ∷ 1 ∷ []) $ now ! $ done !;
  }

  module _ (A : Lfts n → RattleType) {W : Lfts n → List Val → Fml} (O : (κs : Lfts n) → (A κs).Denot → Fml) (is : (κs : Lfts n) (x : (A κs).Denot) (vs : List Val) → (A κs).own_val x vs ≡ fsep (W κs vs) (O κs x)) where
    abbrev pub held : Way 𝓛 (mut_ref_to (j ∷ []) ok (plain A)) yes
    held = record (whole A) {
      had = λ κs qs x vs. O κs x.now ∷ [];
      rest = λ κs qs x vs. fsep (W κs vs) (waiting (lft_at n j ok κs) (share_at n j ok qs) (A κs) x vs);
      back = λ κs qs x vs z. O κs z ∷ [];
      opens = λ κs qs x. let R = A κs in let w : List Val → Fml = λ vs. waiting (lft_at n j ok κs) (share_at n j ok qs) R x vs in
          qed 𝓛 (‵ (((mut_ref_to (j ∷ []) ok (plain A)).row κs).own_val x (mut_vals x)) ∷ ‵ (fsep (flft (lft_at n j ok κs) (share_at n j ok qs)) ftrue) ∷ []) ∵ updating ! $ use2 𝓛 (later (‵ (fex (List Val) (λ vs. fsep (fsep (R.own_val x.now vs) ftrue) (w vs))))) ((whole A).opens κs qs x) $ await ! tt $ fpick ! (λ vs.
          fsplit ! $ fsplit ! $ rewrite ! 0 (λ (P : Fml). ‵ P) (is κs x.now vs) refl $ fsplit ! $ move ! (0 ∷ 3 ∷ []) $ fjoin ! $ move ! (1 ∷ 2 ∷ []) $ fjoin ! $ fjoin ! $ fpack ! (List Val) (λ us. fsep (fsep (O κs x.now) ftrue) (fsep (W κs us) (w us))) vs $ now ! $ done !);
      closes = λ κs qs x vs z. let R = A κs in
          qed 𝓛 (‵ (fsep (O κs z) ftrue) ∷ ‵ (fsep (W κs vs) (waiting (lft_at n j ok κs) (share_at n j ok qs) R x vs)) ∷ []) ∵ updating ! $ fsplit ! $ move ! (2 ∷ []) $ fsplit ! $
          -- [its marker; what waits; what it owns; nothing]
          move ! (0 ∷ 2 ∷ []) $ fjoin ! $ rewrite ! 0 (λ (P : Fml). ‵ P) (sym (is κs z vs)) refl $ move ! (0 ∷ 2 ∷ []) $ fjoin ! $ use2 𝓛 (later (‵ (((mut_ref_to (j ∷ []) ok (plain A)).row κs).own_val (at_last x z) (mut_vals x)) ⊛ ‵ (fsep (flft (lft_at n j ok κs) (share_at n j ok qs)) ftrue))) ((whole A).closes κs qs x vs z) $ await ! tt $ split ! $ now ! $ done !;
    }

  abbrev pub keys : Way 𝓛 (mut_ref_to (j ∷ []) ok (plain (λ κs. Keys.the_row))) yes
  keys = held (λ κs. Keys.the_row) (λ κs k. keys_own k.name k.held) (λ κs x vs. refl)

module _ {M : Type 1} {𝓤 : Ura M} (𝓛 : Logic 𝓤) {n : ℕ} (j : ℕ) (ok : Within n j) (p : ℕ) (okp : Within n p) where
  abbrev pub pass : Way 𝓛 (mut_ref_to (j ∷ []) ok (plain (λ κs. Pass.the_row (named_lft n p okp κs)))) yes
  pass = record (whole 𝓛 j ok (λ κs. Pass.the_row (named_lft n p okp κs))) {
    tokens = λ κs qs. flft (lft_at n j ok κs) (share_at n j ok qs) ∷ flft (lft_at n p okp κs) (share_at n p okp qs) ∷ [];
    New = λ κs. List Entry;
    last = λ κs x z. record x.now { seen = z };
    had = λ κs qs x vs. pass_owns x.now.name x.now.id x.now.seen ∷ [];
    rest = λ κs qs x vs. fsep ((Mark (named_lft n p okp κs)).own_val (record {}, tt) vs) (fsep (beside_open x.now.name.gate (named_lft n p okp κs).lft (share_at n p okp qs) x.now.id x.now.size) (waiting (lft_at n j ok κs) (share_at n j ok qs) (Pass.the_row (named_lft n p okp κs)) x vs));
    back = λ κs qs x vs z. pass_owns x.now.name x.now.id z ∷ [];
    fits = λ κs x z. tt;
    opens = λ κs qs x. let κ = lft_at n j ok κs in let q = share_at n j ok qs in let s = share_at n p okp qs in let ℓ : NamedLft = named_lft n p okp κs in let R = Pass.the_row ℓ in let h = x.now in
        qed 𝓛 (‵ (fsep (feq (List Val) (mut_vals x) (mut_vals x)) (fsep (fobs x.ghost_name (R.coded.code h)) (fbor κ (Body (mem R) x.ref_ptr.0 x.ref_ptr.1 x.ghost_name)))) ∷ ‵ (fsep (flft κ q) (fsep (flft ℓ.lft s) ftrue)) ∷ []) ∵ updating ! $ fsplit3 ! $ move ! (3 ∷ []) $ fsplit3 ! $
        -- [its token; that of its ticket's loan; nothing; its place; the pass, in two]
        join ! $ move ! (3 ∷ 4 ∷ 0 ∷ []) $ opens_pass ! tt ℓ h x.ref_ptr.0 x.ref_ptr.1 (λ vs. move ! (4 ∷ 5 ∷ []) $ fjoin ! $ move ! (4 ∷ 0 ∷ []) $ fjoin ! $ move ! (3 ∷ 0 ∷ []) $ fjoin ! $ move ! (2 ∷ []) $ split ! $ move ! (1 ∷ 2 ∷ []) $ fjoin ! $ move ! (1 ∷ 0 ∷ []) $ fjoin ! $
        -- [what waits; what it owns]
        nothing ! $ move ! (2 ∷ 0 ∷ []) $ fjoin ! $ move ! (0 ∷ 1 ∷ []) $ fjoin ! $
        fpack ! (List Val) (λ us. fsep (fsep (pass_owns h.name h.id h.seen) ftrue) (fsep ((Mark ℓ).own_val (record {}, tt) us) (fsep (beside_open h.name.gate ℓ.lft s h.id h.size) (waiting κ q R x us)))) vs $ keep ! (0 ∷ []) $ now ! $ done !);
    closes = λ κs qs x vs z. let κ = lft_at n j ok κs in let q = share_at n j ok qs in let s = share_at n p okp qs in let ℓ : NamedLft = named_lft n p okp κs in let R = Pass.the_row ℓ in let h = x.now in let h' : (Pass.the_row ℓ).Denot = record h { seen = z } in
        qed 𝓛 (‵ (fsep (pass_owns h.name h.id z) ftrue) ∷ ‵ (fsep ((Mark ℓ).own_val (record {}, tt) vs) (fsep (beside_open h.name.gate ℓ.lft s h.id h.size) (waiting κ q R x vs))) ∷ []) ∵ updating ! $ fsplit ! $ move ! (2 ∷ []) $ fsplit3 ! $
        -- [its marker; its size and what waits; its cell, in one; what it owns; nothing]
        join ! $ move ! (0 ∷ 2 ∷ []) $ join ! $ move ! (1 ∷ []) $ fsplit3 ! $ move ! (2 ∷ []) $ fsplit ! $
        -- [its two names; its cell; its borrow; the pass; nothing]
        move ! (2 ∷ 4 ∷ 3 ∷ 0 ∷ 1 ∷ []) $ closes_pass ! tt ℓ h' refl vs x.ref_ptr.0 x.ref_ptr.1 $
        -- [the pass, in two; its tokens; nothing]
        move ! (2 ∷ []) $ split ! $ move ! (1 ∷ 4 ∷ []) $ fjoin ! $ move ! (1 ∷ 0 ∷ []) $ fjoin ! $ feq_i ! (List Val) (mut_vals x) (mut_vals x) refl $ move ! (0 ∷ 2 ∷ 3 ∷ []) $ fjoin3 ! $ now ! $ done !;
  }

  -- the same, to add an event
  abbrev pub adder : Way 𝓛 (mut_ref_to (j ∷ []) ok (plain (λ κs. Pass.the_row (named_lft n p okp κs)))) yes
  adder = record pass {
    had = λ κs qs x vs. adder_owns x.now.name x.now.id x.now.size x.now.seen ∷ [];
    opens = λ κs qs x. let ℓ : NamedLft = named_lft n p okp κs in let s = share_at n p okp qs in let h = x.now in let m : List Val → Fml = λ us. (Mark ℓ).own_val (record {}, tt) us in let w : List Val → Fml = λ us. waiting (lft_at n j ok κs) (share_at n j ok qs) (Pass.the_row ℓ) x us in
        qed 𝓛 (‵ (((mut_ref_to (j ∷ []) ok (plain (λ κs. Pass.the_row (named_lft n p okp κs)))).row κs).own_val x (mut_vals x)) ∷ ‵ (all (pass.tokens κs qs)) ∷ []) ∵ updating ! $
        use2 𝓛 (later (‵ (fex (List Val) (λ us. fsep (fsep (pass_owns h.name h.id h.seen) ftrue) (fsep (m us) (fsep (beside_open h.name.gate ℓ.lft s h.id h.size) (w us))))))) (pass.opens κs qs x) $ await ! tt $ fpick ! (λ vs. fsplit ! $ fsplit ! $ fsplit ! $ move ! (3 ∷ []) $ fsplit3 ! $ move ! (1 ∷ []) $ fsplit ! $
        -- [its size; its ticket; its marker; what waits; the book; the pass; nothing]
        use1 𝓛 (‵ (had_size h.name.gate.sizes h.size) ⊛ ‵ (had_size h.name.gate.sizes h.size)) (had_twice 𝓛 h.name.gate.sizes h.size) $ split ! $ move ! (0 ∷ 6 ∷ []) $ fjoin ! $ move ! (5 ∷ 0 ∷ []) $ fjoin ! $
        move ! (5 ∷ []) $ move ! (1 ∷ 0 ∷ []) $ fjoin ! $ move ! (1 ∷ 2 ∷ []) $ fjoin ! $ move ! (0 ∷ 3 ∷ []) $ fjoin ! $ move ! (2 ∷ 0 ∷ []) $ fjoin ! $ move ! (1 ∷ 0 ∷ []) $ fjoin ! $
        fpack ! (List Val) (λ us. fsep (fsep (adder_owns h.name h.id h.size h.seen) ftrue) (fsep (m us) (fsep (beside_open h.name.gate ℓ.lft s h.id h.size) (w us)))) vs $ now ! $ done !);
  }

module _ {M : Type 1} {𝓤 : Ura M} (𝓛 : Logic 𝓤) {n : ℕ} where
  -- a `&`, whose value shares S beside what its marker does
  abbrev pub shown : (j : ℕ) (ok : Within n j) (A : Lfts n → RattleType) {W : (κs : Lfts n) → Bor (A κs).Denot → Fml} (S : (κs : Lfts n) → (A κs).Denot → Ptr → Lft → Fml)
      → ((κs : Lfts n) (x : Bor (A κs).Denot) → shared_of (A κs) x.now x.ref_ptr.0 x.ref_ptr.1 (lft_at n j ok κs) ≡ fsep (W κs x) (S κs x.now (block_ptr x.ref_ptr.0 x.ref_ptr.1) (lft_at n j ok κs))) → Way 𝓛 (shr_ref_to (j ∷ []) ok (plain A)) yes
  shown j ok A {W} S is = let s = shr_ref_to (j ∷ []) ok (plain A) in record {
    stay = stay_dropped s yes;
    goes = Goes-dropped 𝓛 n s yes (λ κs x f. refl);
    spell = λ κs. shr_vals;
    tells = λ κs. shr_Tells (named j) (lft_at n j ok κs) (A κs);
    tokens = λ κs qs. flft (lft_at n j ok κs) (share_at n j ok qs) ∷ [];
    Open = Unit {0};
    New = λ κs. Unit {0};
    last = λ κs x z. tt;
    fits = λ κs x z. tt;
    had = λ κs qs x i. S κs x.now (block_ptr x.ref_ptr.0 x.ref_ptr.1) (lft_at n j ok κs) ∷ flft (lft_at n j ok κs) (share_at n j ok qs) ∷ [];
    rest = λ κs qs x i. ftrue;
    back = λ κs qs x i z. flft (lft_at n j ok κs) (share_at n j ok qs) ∷ [];
    opens = λ κs qs x. let κ = lft_at n j ok κs in let q = share_at n j ok qs in
        qed 𝓛 (‵ (fsep (feq (List Val) (shr_vals x) (shr_vals x)) (fhide (shared_of (A κs) x.now x.ref_ptr.0 x.ref_ptr.1 κ))) ∷ ‵ (fsep (flft κ q) ftrue) ∷ []) ∵ updating ! $ fsplit ! $ move ! (1 ∷ []) $ unhide ! $ rewrite ! 0 (λ (P : Fml). ‵ P) (is κs x) refl $ fsplit ! $ move ! (1 ∷ 3 ∷ []) $ fjoin ! $ nothing ! $ move ! (1 ∷ 0 ∷ []) $ fjoin ! $
        fpack ! (Unit {0}) (λ i. fsep (fsep (S κs x.now (block_ptr x.ref_ptr.0 x.ref_ptr.1) κ) (fsep (flft κ q) ftrue)) ftrue) tt $ keep ! (0 ∷ []) $ now ! $ done !;
    closes = λ κs qs x i z. qed 𝓛 (‵ (fsep (flft (lft_at n j ok κs) (share_at n j ok qs)) ftrue) ∷ ‵ ftrue ∷ []) ∵ updating ! $ move ! (1 ∷ 0 ∷ []) $ now ! $ done !;
  }

  -- a value without bytes, of a type that owns O beside its marker
  abbrev pub taken : (k : Kept) (A : Lfts n → RattleType) {W : Lfts n → Fml} (O : (κs : Lfts n) → (A κs).Denot → Fml) → ((κs : Lfts n) (x : (A κs).Denot) → (A κs).own_val x (token ∷ []) ≡ fsep (W κs) (O κs x))
      → ((κs : Lfts n) → Tells (A κs) (Is (A κs)) no_bytes) → ((κs : Lfts n) (x : (A κs).Denot) (f : Last ((A κs).exit k) x) → left ((A κs).exit k) x f ≡ ftrue) → ((κs : Lfts n) (x : (A κs).Denot) → Last ((A κs).exit k) x) → Way 𝓛 (plain A) k
  taken k A {W} O is tells silent last = record {
    stay = stay_dropped (plain A) k;
    goes = Goes-dropped 𝓛 n (plain A) k silent;
    spell = λ κs. no_bytes;
    tells = tells;
    tokens = λ κs qs. [];
    Open = Unit {0};
    New = λ κs. Unit {0};
    last = λ κs x z. last κs x;
    fits = λ κs x z. tt;
    had = λ κs qs x i. O κs x ∷ [];
    rest = λ κs qs x i. ftrue;
    back = λ κs qs x i z. [];
    opens = λ κs qs x. qed 𝓛 (‵ ((A κs).own_val x (token ∷ [])) ∷ ‵ ftrue ∷ []) ∵ updating ! $ rewrite ! 0 (λ (P : Fml). ‵ P) (is κs x) refl $ fsplit ! $ nothing ! $ move ! (2 ∷ 0 ∷ []) $ fjoin ! $ move ! (0 ∷ 2 ∷ []) $ fjoin ! $
        fpack ! (Unit {0}) (λ i. fsep (fsep (O κs x) ftrue) ftrue) tt $ keep ! (0 ∷ []) $ now ! $ done !;
    closes = λ κs qs x i z. qed 𝓛 (‵ ftrue ∷ ‵ ftrue ∷ []) ∵ updating ! $ now ! $ done !;
  }

  -- a number of eight bytes
  abbrev pub number : Way 𝓛 (plain (λ (κs : Lfts n). u64)) yes
  number = record {
    stay = stay_dropped (plain (λ κs. u64)) yes;
    goes = Goes-dropped 𝓛 n (plain (λ κs. u64)) yes (λ κs x f. refl);
    spell = λ κs. uint_vals w64;
    tells = λ κs. uint_Tells w64;
    tokens = λ κs qs. [];
    Open = Unit {0};
    New = λ κs. Unit {0};
    last = λ κs x z. tt;
    fits = λ κs x z. tt;
    had = λ κs qs x i. [];
    rest = λ κs qs x i. ftrue;
    back = λ κs qs x i z. [];
    opens = λ κs qs x. qed 𝓛 (‵ (u64.own_val x (uint_vals w64 x)) ∷ ‵ ftrue ∷ []) ∵ updating ! $ nothing ! $ move ! (0 ∷ 2 ∷ []) $ fjoin ! $ fpack ! (Unit {0}) (λ i. fsep ftrue ftrue) tt $ keep ! (0 ∷ []) $ now ! $ done !;
    closes = λ κs qs x i z. qed 𝓛 (‵ ftrue ∷ ‵ ftrue ∷ []) ∵ updating ! $ now ! $ done !;
  }

  -- a parameter whose type has a further lifetime, which its proof doesn't need
  abbrev pub beside : {s : Slot n} {k : Kept} (p : ℕ) (okp : Within n p) → Way 𝓛 s k → Way 𝓛 s k
  beside {s} p okp w = let l : Lfts n → Shares n → Fml = λ κs qs. flft (lft_at n p okp κs) (share_at n p okp qs) in record w {
    tokens = λ κs qs. w.tokens κs qs ++ (l κs qs ∷ []);
    rest = λ κs qs x i. fsep (l κs qs) (w.rest κs qs x i);
    opens = λ κs qs x. let ts = w.tokens κs qs in
        qed 𝓛 (‵ ((s.row κs).own_val x (w.spell κs x)) ∷ ‵ (all (ts ++ (l κs qs ∷ []))) ∷ []) ∵ updating ! $ move ! (1 ∷ []) $ use1 𝓛 (‵ (all ts) ⊛ ‵ (fsep (l κs qs) ftrue)) (apart 𝓛 ts (l κs qs ∷ [])) $ split ! $ move ! (2 ∷ 0 ∷ []) $
        use2 𝓛 (later (‵ (fex w.Open (λ i. fsep (all (w.had κs qs x i)) (w.rest κs qs x i))))) (w.opens κs qs x) $ await ! tt $ fpick ! (λ i. fsplit ! $ move ! (2 ∷ []) $ fsplit ! $ move ! (0 ∷ 3 ∷ []) $ fjoin ! $ move ! (2 ∷ 0 ∷ []) $ fjoin ! $
        fpack ! w.Open (λ i. fsep (all (w.had κs qs x i)) (fsep (l κs qs) (w.rest κs qs x i))) i $ keep ! (0 ∷ []) $ now ! $ done !);
    closes = λ κs qs x i z. let ts = w.tokens κs qs in
        qed 𝓛 (‵ (all (w.back κs qs x i z)) ∷ ‵ (fsep (l κs qs) (w.rest κs qs x i)) ∷ []) ∵ updating ! $ move ! (1 ∷ []) $ fsplit ! $ move ! (2 ∷ 1 ∷ []) $
        use2 𝓛 (later (‵ (w.stay.has κs x (w.last κs x z) (w.spell κs x)) ⊛ ‵ (all ts))) (w.closes κs qs x i z) $ await ! tt $ split ! $ nothing ! $ move ! (3 ∷ 0 ∷ []) $ fjoin ! $ move ! (2 ∷ 0 ∷ []) $ use2 𝓛 (‵ (all (ts ++ (l κs qs ∷ [])))) (together 𝓛 ts (l κs qs ∷ [])) $ move ! (1 ∷ 0 ∷ []) $ now ! $ done !;
  }

  abbrev pub along : {s : Slot n} {k : Kept} (p : ℕ) (okp : Within n p) → Way 𝓛 s k → Way 𝓛 s k
  along {s} p okp w = let l : Lfts n → Shares n → List Fml = λ κs qs. flft (lft_at n p okp κs) (share_at n p okp qs) ∷ [] in record w {
    tokens = λ κs qs. w.tokens κs qs ++ l κs qs;
    had = λ κs qs x i. w.had κs qs x i ++ l κs qs;
    back = λ κs qs x i z. w.back κs qs x i z ++ l κs qs;
    opens = λ κs qs x. let ts = w.tokens κs qs in
        qed 𝓛 (‵ ((s.row κs).own_val x (w.spell κs x)) ∷ ‵ (all (ts ++ l κs qs)) ∷ []) ∵ updating ! $ move ! (1 ∷ []) $ use1 𝓛 (‵ (all ts) ⊛ ‵ (all (l κs qs))) (apart 𝓛 ts (l κs qs)) $ split ! $ move ! (2 ∷ 0 ∷ []) $
        use2 𝓛 (later (‵ (fex w.Open (λ i. fsep (all (w.had κs qs x i)) (w.rest κs qs x i))))) (w.opens κs qs x) $ await ! tt $ fpick ! (λ i. fsplit ! $ move ! (0 ∷ 2 ∷ []) $ use2 𝓛 (‵ (all (w.had κs qs x i ++ l κs qs))) (together 𝓛 (w.had κs qs x i) (l κs qs)) $ fjoin ! $
        fpack ! w.Open (λ i. fsep (all (w.had κs qs x i ++ l κs qs)) (w.rest κs qs x i)) i $ now ! $ done !);
    closes = λ κs qs x i z. let ts = w.tokens κs qs in let bs = w.back κs qs x i z in
        qed 𝓛 (‵ (all (bs ++ l κs qs)) ∷ ‵ (w.rest κs qs x i) ∷ []) ∵ updating ! $ use1 𝓛 (‵ (all bs) ⊛ ‵ (all (l κs qs))) (apart 𝓛 bs (l κs qs)) $ split ! $ move ! (0 ∷ 2 ∷ []) $
        use2 𝓛 (later (‵ (w.stay.has κs x (w.last κs x z) (w.spell κs x)) ⊛ ‵ (all ts))) (w.closes κs qs x i z) $ await ! tt $ split ! $ move ! (1 ∷ 2 ∷ []) $ use2 𝓛 (‵ (all (ts ++ l κs qs))) (together 𝓛 ts (l κs qs)) $ move ! (1 ∷ 0 ∷ []) $ now ! $ done !;
  }
