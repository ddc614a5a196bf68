-- Calls that run nothing. The code of such a function makes a result without bytes, whatever it is passed; its contract is about ghost state
-- alone. So one lemma, `calls`, proves them all: it opens what the parameters lend, hands it to the proof of the one thing that each function
-- does, takes back what that leaves, and ends. Assumes `Logic`.
--     told           a fact, from nothing: the `ensures` of most of them
--     all            the formulas of a list, one beside another
--     Idle           the code answers v, and needs nothing for it
--     Way            how a parameter is lent: its tokens; what is had of it (`had`); what is given back (`back`), at a value `New` that the
--                    proof picks; what waits meanwhile (`rest`)
--     Ways           one for each parameter
--     Made           what a result is made of, at its machine value
--     Core           what is left to prove: from what is had and the `requires` to what is given back, what the result is made of, and the `ensures`.
--                    It is handed its end: at the result, the values picked, and the `ensures`, once the context is what is given back and needed
use Rattle.seize_book.proofs.Kit.{ℕ, ◌≡◌, subst, List, [], ◌∷◌, ◌++◌, proved, leaves, Val, Ura, SProp, ent, sep, emp, Fml, ftrue, fsep, fex, Logic, sem, ‵, raw, ◌⊛◌, some, later, ◌$◌, ◌∵◌, !, qed, by, move, split, join, fsplit, fjoin, fpick, fpack, pick, use0, use1, use2, await, done, tables, owns, types_at, Lfts, Stays, walk_of, RattleType}
use base.Logic.{via, id⊢, snd∗, mono_r, emp∗, ex, ex_i}
use contract.Lifetimes.{Shares}
use contract.Monad.{fact, fact_i}
use contract.Running.{Running}
use denote.Exit.{Kept, Last}
use denote.Laws.{Are, Is, Ises, Tells, Spells, Tellss, valss}
use denote.RattleType.{Denots, flat}
use denote.Signature.{Slot, type_at}
use denote.Triple.Clauses.{Clauses, Ended, at_exit, closing}
use denote.Triple.End.{Fins, Kepts}
use denote.Triple.Entry.{Args, Res, alive, on_entry}
use denote.Triple.Spec.{Meets}
use denote.Triple.Walked.{AllGo, Goes, Stay, fits_of, has_of}
use mir.Syntax.{Callee, Fn}
use prog.Model.{Model}
use prog.Wp.{Calls, Closed, Loops, WpFn}
use types.Kit.{Go, Item, Seq, mean, now, pop, push, updating, upd, ⋆}

pub told : {M : Type 1} (𝓤 : Ura M) {φ : Type 0} → φ → ent 𝓤 (emp 𝓤) (fact 𝓤 φ)
told 𝓤 {φ} x = fact_i 𝓤 φ (emp 𝓤) x

abbrev pub all : List Fml → Fml
all [] = ftrue
all (P ∷ Ps) = fsep P (all Ps)

module _ {M : Type 1} {𝓤 : Ura M} (𝓛 : Logic 𝓤) where
  open 𝓛 use {H}

  -- ---- lists of formulas
  pub apart : (Ps Qs : List Fml) → ent 𝓤 (sem 𝓛 (all (Ps ++ Qs))) (sep 𝓤 (sem 𝓛 (all Ps)) (sem 𝓛 (all Qs)))
  apart [] Qs = emp∗ 𝓤 (sem 𝓛 (all Qs))
  apart (P ∷ Ps) Qs = qed 𝓛 (‵ (all (P ∷ (Ps ++ Qs))) ∷ []) ∵ fsplit ! $ move ! (1 ∷ []) $ use1 𝓛 (‵ (all Ps) ⊛ ‵ (all Qs)) (apart Ps Qs) $ split ! $ move ! (2 ∷ 0 ∷ []) $ fjoin ! $ done !

  pub together : (Ps Qs : List Fml) → ent 𝓤 (sep 𝓤 (sem 𝓛 (all Ps)) (sem 𝓛 (all Qs))) (sem 𝓛 (all (Ps ++ Qs)))
  together [] Qs = snd∗ 𝓤 (emp 𝓤) (sem 𝓛 (all Qs))
  together (P ∷ Ps) Qs = qed 𝓛 (‵ (all (P ∷ Ps)) ∷ ‵ (all Qs) ∷ []) ∵ fsplit ! $ move ! (1 ∷ 2 ∷ []) $ use2 𝓛 (‵ (all (Ps ++ Qs))) (together Ps Qs) $ move ! (1 ∷ 0 ∷ []) $ fjoin ! $ done !

  -- as the entries of a context, before others
  abbrev pub before : List Fml → List (Item 𝓤) → List (Item 𝓤)
  before [] Γ = Γ
  before (P ∷ Ps) Γ = ‵ P ∷ before Ps Γ

  laid : (Ps : List Fml) (Γ : List (Item 𝓤)) → ent 𝓤 (sep 𝓤 (sem 𝓛 (all Ps)) (⋆ 𝓛 Γ)) (⋆ 𝓛 (before Ps Γ))
  laid [] Γ = snd∗ 𝓤 (emp 𝓤) (⋆ 𝓛 Γ)
  laid (P ∷ Ps) Γ = via 𝓤 (sep 𝓤 (sem 𝓛 P) (⋆ 𝓛 (before Ps Γ))) (qed 𝓛 (‵ (all (P ∷ Ps)) ∷ raw (⋆ 𝓛 Γ) ∷ []) ∵ fsplit ! $ move ! (1 ∷ 2 ∷ []) $ use2 𝓛 (raw (⋆ 𝓛 (before Ps Γ))) (laid Ps Γ) $ move ! (1 ∷ 0 ∷ []) $ done !) (push 𝓛 (‵ P) (before Ps Γ))

  taken : (Ps : List Fml) → ent 𝓤 (⋆ 𝓛 (before Ps [])) (sem 𝓛 (all Ps))
  taken [] = id⊢ 𝓤 (emp 𝓤)
  taken (P ∷ Ps) = via 𝓤 (sep 𝓤 (sem 𝓛 P) (⋆ 𝓛 (before Ps []))) (pop 𝓛 (‵ P) (before Ps [])) (mono_r 𝓤 (sem 𝓛 P) (taken Ps))

  pub record Idle (C : Calls 𝓤 H) (Λ : Loops 𝓤 H) (e : Fn) (vs : List Val) (v : Val) : Type 2 where
    pub go : (P : SProp 𝓤) (Post : Val → SProp 𝓤) → ent 𝓤 P (H.⇛ (Post v)) → ent 𝓤 P (WpFn 𝓤 H C Λ e vs Post)

  -- what a result is made of
  pub record Made (R : RattleType) (v : Val) : Type 1 where
    pub needs : R.Denot → List Fml
    pub made : (r : R.Denot) → ent 𝓤 (sem 𝓛 (all (needs r))) (sem 𝓛 (R.own_val r (v ∷ [])))

  -- ---- the parameters
  module _ {n : ℕ} where
    pub record Way (s : Slot n) (k : Kept) : Type 2 where
      pub stay : Stay s k
      pub goes : Goes 𝓛 n s k stay
      pub spell : (κs : Lfts n) → (s.row κs).Denot → List Val
      pub tells : (κs : Lfts n) → Tells (s.row κs) (Is (s.row κs)) (spell κs)
      pub tokens : Lfts n → Shares n → List Fml
      pub Open : Type 0
      pub New : Lfts n → Type 0
      pub last : (κs : Lfts n) (x : (s.row κs).Denot) → New κs → Last ((s.row κs).exit k) x
      pub fits : (κs : Lfts n) (x : (s.row κs).Denot) (z : New κs) → stay.fit κs x (last κs x z)
      pub had : (κs : Lfts n) → Shares n → (s.row κs).Denot → Open → List Fml
      pub rest : (κs : Lfts n) → Shares n → (s.row κs).Denot → Open → Fml
      pub back : (κs : Lfts n) → Shares n → (s.row κs).Denot → Open → New κs → List Fml
      pub opens : (κs : Lfts n) (qs : Shares n) (x : (s.row κs).Denot)
          → ent 𝓤 (sep 𝓤 (sem 𝓛 ((s.row κs).own_val x (spell κs x))) (sem 𝓛 (all (tokens κs qs)))) (H.⇛ (sem 𝓛 (fex Open (λ i. fsep (all (had κs qs x i)) (rest κs qs x i)))))
      pub closes : (κs : Lfts n) (qs : Shares n) (x : (s.row κs).Denot) (i : Open) (z : New κs)
          → ent 𝓤 (sep 𝓤 (sem 𝓛 (all (back κs qs x i z))) (sem 𝓛 (rest κs qs x i))) (H.⇛ (sep 𝓤 (sem 𝓛 (stay.has κs x (last κs x z) (spell κs x))) (sem 𝓛 (all (tokens κs qs)))))

    abbrev pub Ways : (ss : List (Slot n)) → Kepts ss → Type 2
    Ways [] ks = Unit {2}
    Ways (s ∷ ss) ks = Way s ks.0 × Ways ss ks.1

    abbrev pub stays_of : (ss : List (Slot n)) (ks : Kepts ss) → Ways ss ks → Stays ss ks
    stays_of [] ks ws = tt
    stays_of (s ∷ ss) ks ws = (ws.0.stay, stays_of ss ks.1 ws.1)

    go_of : (ss : List (Slot n)) (ks : Kepts ss) (ws : Ways ss ks) → AllGo 𝓛 n ss ks (stays_of ss ks ws)
    go_of [] ks ws = tt
    go_of (s ∷ ss) ks ws = (ws.0.goes, go_of ss ks.1 ws.1)

    abbrev pub Opens : (ss : List (Slot n)) (ks : Kepts ss) → Ways ss ks → Type 0
    Opens [] ks ws = Unit {0}
    Opens (s ∷ ss) ks ws = ws.0.Open × Opens ss ks.1 ws.1

    module _ (κs : Lfts n) where
      abbrev pub spells_of : (ss : List (Slot n)) (ks : Kepts ss) → Ways ss ks → Spells (types_at ss κs)
      spells_of [] ks ws = tt
      spells_of (s ∷ ss) ks ws = (ws.0.spell κs, spells_of ss ks.1 ws.1)

      tells_of : (ss : List (Slot n)) (ks : Kepts ss) (ws : Ways ss ks) → Tellss (types_at ss κs) (Ises (types_at ss κs)) (spells_of ss ks ws)
      tells_of [] ks ws = tt
      tells_of (s ∷ ss) ks ws = (ws.0.tells κs, tells_of ss ks.1 ws.1)

      abbrev pub News : (ss : List (Slot n)) (ks : Kepts ss) → Ways ss ks → Type 0
      News [] ks ws = Unit {0}
      News (s ∷ ss) ks ws = ws.0.New κs × News ss ks.1 ws.1

      abbrev pub last_of : (ss : List (Slot n)) (ks : Kepts ss) (ws : Ways ss ks) (a : Denots (types_at ss κs)) → News ss ks ws → Fins κs ss ks a
      last_of [] ks ws a zs = tt
      last_of (s ∷ ss) ks ws a zs = (ws.0.last κs a.0 zs.0, last_of ss ks.1 ws.1 a.1 zs.1)

      fit_of : (ss : List (Slot n)) (ks : Kepts ss) (ws : Ways ss ks) (a : Denots (types_at ss κs)) (zs : News ss ks ws) → fits_of κs ss ks (stays_of ss ks ws) a (last_of ss ks ws a zs)
      fit_of [] ks ws a zs = tt
      fit_of (s ∷ ss) ks ws a zs = (ws.0.fits κs a.0 zs.0, fit_of ss ks.1 ws.1 a.1 zs.1)

      module _ (qs : Shares n) where
        abbrev pub tokens_of : (ss : List (Slot n)) (ks : Kepts ss) → Ways ss ks → List Fml
        tokens_of [] ks ws = []
        tokens_of (s ∷ ss) ks ws = ws.0.tokens κs qs ++ tokens_of ss ks.1 ws.1

        abbrev pub hads : (ss : List (Slot n)) (ks : Kepts ss) (ws : Ways ss ks) → Denots (types_at ss κs) → Opens ss ks ws → List Fml
        hads [] ks ws a is = []
        hads (s ∷ ss) ks ws a is = ws.0.had κs qs a.0 is.0 ++ hads ss ks.1 ws.1 a.1 is.1

        abbrev rests : (ss : List (Slot n)) (ks : Kepts ss) (ws : Ways ss ks) → Denots (types_at ss κs) → Opens ss ks ws → Fml
        rests [] ks ws a is = ftrue
        rests (s ∷ ss) ks ws a is = fsep (ws.0.rest κs qs a.0 is.0) (rests ss ks.1 ws.1 a.1 is.1)

        abbrev pub backs : (ss : List (Slot n)) (ks : Kepts ss) (ws : Ways ss ks) (a : Denots (types_at ss κs)) → Opens ss ks ws → News ss ks ws → List Fml
        backs [] ks ws a is zs = []
        backs (s ∷ ss) ks ws a is zs = ws.0.back κs qs a.0 is.0 zs.0 ++ backs ss ks.1 ws.1 a.1 is.1 zs.1

        opened : (ss : List (Slot n)) (ks : Kepts ss) (ws : Ways ss ks) (a : Denots (types_at ss κs))
            → ent 𝓤 (sep 𝓤 (sem 𝓛 (owns (types_at ss κs) a (valss (types_at ss κs) (spells_of ss ks ws) a))) (sem 𝓛 (all (tokens_of ss ks ws)))) (H.⇛ (sem 𝓛 (fex (Opens ss ks ws) (λ is. fsep (all (hads ss ks ws a is)) (rests ss ks ws a is)))))
        opened [] ks ws a = qed 𝓛 (‵ ftrue ∷ ‵ ftrue ∷ []) ∵ updating ! $ fjoin ! $ fpack ! (Unit {0}) (λ is. fsep ftrue ftrue) tt $ now ! $ done !
        opened (s ∷ ss) ks ws a =
            let w = ws.0 in let Rs = types_at ss κs in let ts = w.tokens κs qs in let us = tokens_of ss ks.1 ws.1 in
            qed 𝓛 (‵ (fsep ((s.row κs).own_val a.0 (w.spell κs a.0)) (owns Rs a.1 (valss Rs (spells_of ss ks.1 ws.1) a.1))) ∷ ‵ (all (ts ++ us)) ∷ []) ∵ updating ! $ fsplit ! $ move ! (2 ∷ []) $
            use1 𝓛 (‵ (all ts) ⊛ ‵ (all us)) (apart ts us) $ split ! $ move ! (2 ∷ 0 ∷ []) $
            -- [this one; its tokens; those of the others; the others]
            use2 𝓛 (later (‵ (fex w.Open (λ i. fsep (all (w.had κs qs a.0 i)) (w.rest κs qs a.0 i))))) (w.opens κs qs a.0) $ await ! tt $ fpick ! (λ i. fsplit ! $ move ! (3 ∷ 2 ∷ []) $
            use2 𝓛 (later (‵ (fex (Opens ss ks.1 ws.1) (λ is. fsep (all (hads ss ks.1 ws.1 a.1 is)) (rests ss ks.1 ws.1 a.1 is))))) (opened ss ks.1 ws.1 a.1) $ await ! tt $ fpick ! (λ is. fsplit ! $
            -- [what is had of the others; what waits of them; what is had of this one; what waits of it]
            move ! (3 ∷ 1 ∷ []) $ fjoin ! $ move ! (2 ∷ 1 ∷ []) $ use2 𝓛 (‵ (all (w.had κs qs a.0 i ++ hads ss ks.1 ws.1 a.1 is))) (together (w.had κs qs a.0 i) (hads ss ks.1 ws.1 a.1 is)) $ fjoin ! $
            fpack ! (Opens (s ∷ ss) ks ws) (λ js. fsep (all (hads (s ∷ ss) ks ws a js)) (rests (s ∷ ss) ks ws a js)) (i, is) $ now ! $ done !))

        closed : (ss : List (Slot n)) (ks : Kepts ss) (ws : Ways ss ks) (a : Denots (types_at ss κs)) (is : Opens ss ks ws) (zs : News ss ks ws)
            → ent 𝓤 (sep 𝓤 (sem 𝓛 (all (backs ss ks ws a is zs))) (sem 𝓛 (rests ss ks ws a is))) (H.⇛ (sep 𝓤 (sem 𝓛 (has_of κs ss ks (stays_of ss ks ws) a (last_of ss ks ws a zs) (valss (types_at ss κs) (spells_of ss ks ws) a))) (sem 𝓛 (all (tokens_of ss ks ws)))))
        closed [] ks ws a is zs = qed 𝓛 (‵ ftrue ∷ ‵ ftrue ∷ []) ∵ updating ! $ now ! $ done !
        closed (s ∷ ss) ks ws a is zs =
            let w = ws.0 in let Rs = types_at ss κs in let ts = w.tokens κs qs in let us = tokens_of ss ks.1 ws.1 in let bs = w.back κs qs a.0 is.0 zs.0 in let cs = backs ss ks.1 ws.1 a.1 is.1 zs.1 in
            qed 𝓛 (‵ (all (bs ++ cs)) ∷ ‵ (fsep (w.rest κs qs a.0 is.0) (rests ss ks.1 ws.1 a.1 is.1)) ∷ []) ∵ updating ! $
            use1 𝓛 (‵ (all bs) ⊛ ‵ (all cs)) (apart bs cs) $ split ! $ move ! (2 ∷ []) $ fsplit ! $ move ! (2 ∷ 0 ∷ []) $
            -- [what is given back of this one; what waits of it; what waits of the others; what is given back of them]
            use2 𝓛 (later (‵ (w.stay.has κs a.0 (w.last κs a.0 zs.0) (w.spell κs a.0)) ⊛ ‵ (all ts))) (w.closes κs qs a.0 is.0 zs.0) $ await ! tt $ move ! (2 ∷ 1 ∷ []) $
            use2 𝓛 (later (‵ (has_of κs ss ks.1 (stays_of ss ks.1 ws.1) a.1 (last_of ss ks.1 ws.1 a.1 zs.1) (valss Rs (spells_of ss ks.1 ws.1) a.1)) ⊛ ‵ (all us))) (closed ss ks.1 ws.1 a.1 is.1 zs.1) $ await ! tt $
            split ! $ move ! (2 ∷ []) $ split ! $ move ! (1 ∷ 3 ∷ []) $ use2 𝓛 (‵ (all (ts ++ us))) (together ts us) $ move ! (1 ∷ 2 ∷ []) $ fjoin ! $ now ! $ done !

  -- ---- the call
  module _ (T : Ended) (ws : Ways T.signature.params T.kept) (c : Clauses 𝓤 T) (v : Val) (m : (κs : Lfts T.signature.lifetimes) → Made (type_at T.signature.result κs) v) where
    module _ (κs : Lfts T.signature.lifetimes) (qs : Shares T.signature.lifetimes) (a : Args T.signature κs) (g : (c κs a).ghost) (is : Opens T.signature.params T.kept ws) where
      abbrev pub Left : (r : Res T.signature κs) → News κs T.signature.params T.kept ws → Item 𝓤
      Left r zs = ‵ (all (backs κs qs T.signature.params T.kept ws a is zs ++ (m κs).needs r)) ⊛ raw ((c κs a).ensures g r (at_exit T κs a (last_of κs T.signature.params T.kept ws a zs)))

      abbrev pub Out : Item 𝓤
      Out = some (λ (r : Res T.signature κs). some (λ (zs : News κs T.signature.params T.kept ws). Left r zs))

      abbrev pub End : Type 1
      End = (r : Res T.signature κs) (zs : News κs T.signature.params T.kept ws) → ent 𝓤 (emp 𝓤) ((c κs a).ensures g r (at_exit T κs a (last_of κs T.signature.params T.kept ws a zs)))
          → Seq (Go {0}) 𝓛 (before (backs κs qs T.signature.params T.kept ws a is zs ++ (m κs).needs r) []) (upd (mean 𝓛 Out))

      abbrev pub Core : Type 1
      Core = End → Seq (Go {0}) 𝓛 (before (hads κs qs T.signature.params T.kept ws a is) (raw ((c κs a).requires g) ∷ [])) (upd (mean 𝓛 Out))

      ends : End
      ends r zs told = let given_back = backs κs qs T.signature.params T.kept ws a is zs ++ (m κs).needs r in
          by ! (via 𝓤 _ (taken given_back) (qed 𝓛 (‵ (all given_back) ∷ []) ∵ updating ! $ use0 𝓛 (raw ((c κs a).ensures g r (at_exit T κs a (last_of κs T.signature.params T.kept ws a zs)))) told $ move ! (1 ∷ 0 ∷ []) $ join ! $ now ! $
          by ! (via 𝓤 _ (ex_i 𝓤 (λ z. mean 𝓛 (Left r z)) zs) (ex_i 𝓤 (λ x. ex 𝓤 (λ z. mean 𝓛 (Left x z))) r))))

    pub calls : (𝓜 : Model 𝓤 H) (𝓡 : Running 𝓤 H 𝓜) (k : Callee) (e : Fn) → Closed 𝓤 H (tables 𝓤 H 𝓜 𝓡 𝓡.env).C (tables 𝓤 H 𝓜 𝓡 𝓡.env).Λ k e
        → ((κs : Lfts T.signature.lifetimes) (qs : Shares T.signature.lifetimes) → alive 𝓛 T.signature κs qs ≡ sem 𝓛 (all (tokens_of κs qs T.signature.params T.kept ws)))
        → ((κs : Lfts T.signature.lifetimes) (a : Args T.signature κs) → Are (types_at T.signature.params κs) (Ises (types_at T.signature.params κs)) a (valss (types_at T.signature.params κs) (spells_of κs T.signature.params T.kept ws) a) → Idle (tables 𝓤 H 𝓜 𝓡 𝓡.env).C (tables 𝓤 H 𝓜 𝓡 𝓡.env).Λ e (flat (types_at T.signature.params κs) (valss (types_at T.signature.params κs) (spells_of κs T.signature.params T.kept ws) a)) v)
        → ((κs : Lfts T.signature.lifetimes) (qs : Shares T.signature.lifetimes) (a : Args T.signature κs) → Are (types_at T.signature.params κs) (Ises (types_at T.signature.params κs)) a (valss (types_at T.signature.params κs) (spells_of κs T.signature.params T.kept ws) a) → (g : (c κs a).ghost) (is : Opens T.signature.params T.kept ws) → Core κs qs a g is)
        → Meets 𝓛 T.signature ((tables 𝓤 H 𝓜 𝓡 𝓡.env).C k) (closing 𝓛 T c)
    calls 𝓜 𝓡 k e closed_ its idle core =
        let ss = T.signature.params in let ks = T.kept in let hs = stays_of ss ks ws in
        proved 𝓛 T hs c 𝓜 𝓡 (go_of ss ks ws) k e closed_ (λ κs. spells_of κs ss ks ws) (λ κs. tells_of κs ss ks ws) (λ κs qs bounds a g are.
        let Rs = types_at ss κs in let vss = valss Rs (spells_of κs ss ks ws) a in let ts = tokens_of κs qs ss ks ws in
        let y : (walk_of 𝓛 T hs c).Ghost = ((κs, qs, bounds, a, vss), g) in
        (idle κs a are).go (sep 𝓤 (on_entry 𝓛 T.signature κs qs a vss) ((c κs a).requires g)) ((walk_of 𝓛 T hs c).post y)
        (qed 𝓛 ((raw (alive 𝓛 T.signature κs qs) ⊛ ‵ (owns Rs a vss)) ∷ raw ((c κs a).requires g) ∷ []) ∵ updating ! $ split ! $
        use1 𝓛 (‵ (all ts)) (subst (λ P. ent 𝓤 (alive 𝓛 T.signature κs qs) P) (its κs qs) (id⊢ 𝓤 (alive 𝓛 T.signature κs qs))) $ move ! (1 ∷ 0 ∷ []) $
        use2 𝓛 (later (‵ (fex (Opens ss ks ws) (λ is. fsep (all (hads κs qs ss ks ws a is)) (rests κs qs ss ks ws a is))))) (opened κs qs ss ks ws a) $ await ! tt $ fpick ! (λ is. fsplit ! $
        -- [what is had; what waits; what was asked]
        move ! (0 ∷ 2 ∷ []) $ use2 𝓛 (later (Out κs qs a g is)) (via 𝓤 (⋆ 𝓛 (before (hads κs qs ss ks ws a is) (raw ((c κs a).requires g) ∷ []))) (laid (hads κs qs ss ks ws a is) (raw ((c κs a).requires g) ∷ [])) (core κs qs a are g is (ends κs qs a g is)).prf) $ await ! tt $
        pick ! (λ r. pick ! (λ zs. split ! $ let bs = backs κs qs ss ks ws a is zs in
        use1 𝓛 (‵ (all bs) ⊛ ‵ (all ((m κs).needs r))) (apart bs ((m κs).needs r)) $ split ! $
        -- [what is given back; what the result is made of; what is told; what waits]
        move ! (0 ∷ 3 ∷ []) $ use2 𝓛 (later (‵ (has_of κs ss ks hs a (last_of κs ss ks ws a zs) vss) ⊛ ‵ (all ts))) (closed κs qs ss ks ws a is zs) $ await ! tt $ split ! $
        move ! (2 ∷ []) $ use1 𝓛 (‵ ((type_at T.signature.result κs).own_val r (v ∷ []))) ((m κs).made r) $
        move ! (2 ∷ []) $ use1 𝓛 (raw (alive 𝓛 T.signature κs qs)) (subst (λ P. ent 𝓤 P (alive 𝓛 T.signature κs qs)) (its κs qs) (id⊢ 𝓤 (alive 𝓛 T.signature κs qs))) $
        -- [the tokens; the result; what is had; what is told]
        move ! (0 ∷ 2 ∷ 1 ∷ 3 ∷ []) $ now ! $ by ! (leaves 𝓛 T hs c y v r (last_of κs ss ks ws a zs) (fit_of κs ss ks ws a zs)))))))
