-- `known` hands the box to a function for any family, at the cell's own.
use Rattle.seize_store.proofs.Kit.{◌≡◌, ℕ, ◌+◌, List, [], ◌∷◌, ◌++◌, refl, sym, subst, proved_at, leaves, fm, Val, vptr, SProp, ent, emp, id⊢, Lft, Share, ftrue, flft, ‵, raw, ◌⊛◌, some, later, ◌$◌, ◌∵◌, !, qed, by, move, keep, drop, split, split3, join, fsplit, fjoin, pick, use0, use1, await, rewrite, feq_i, suffices, stop, fld, addr, of_opd, no_more, and_then, returns, enter, alloc_all, pass_all, free_all, look_at, get, through, sets, lands_as, fact, fact_i, tables, yes, no, RattleType, owns, types_at, plain, RefOf, nothing, heard, Stays, stay_dropped, walk_of, Goes-dropped}
use mir.Syntax.{a_type, dcons, dnil}
use mir.MapTy.{inst_fn}
use base.Fraction.{full_share}
use prog.Wp.{WpFn}
use contract.BorrowLft.{◌⊑◌, ⊑_static}
use denote.Param.{param, layout, bounded}
use denote.Param.Laws.{param_laws}
use denote.Laws.{Is, shows}
use denote.Steps.{peeks}
use denote.Triple.Call.{calls_at}
use denote.Triple.Clauses.{Lasts, lasts}
use denote.Triple.Spec.{triple_of}
use Rattle.core.proofs.alloc.Calls.{Goes-blank}
use Rattle.core.proofs.cell.Inside.{one}
use Rattle.std.proofs.raw_atomic.Calls.{marker, marker_laws, dict}
use Rattle.std.specs.Prelude.{IsSome}
use Rattle.std.specs.declared.option.Option.TheVariants.{Some}
use Rattle.once_cell.specs.Once.{cell_name}
use Rattle.seize_store.specs.contracts.kin.known_in as callee
use Rattle.seize_store.proofs.kin.known_in.Met.{met}
use denote.HoleKnot.{shared_laws}
use denote.Ref.{ShrRef}
use mir.Syntax.{named}
use Rattle.seize_store.proofs.Once.{Note, noted_laws}
use Rattle.seize_store.specs.contracts.once_of.OnceOf as cell
use Rattle.seize_store.specs.contracts.once_of.OnceOf.known.{ended, clauses}
use Rattle.seize_store.specs.contracts.once_of.OnceOf.known.Key.{name as #self}
use Rattle.seize_store.proofs.once_of.OnceOf.known.Statement.{statement}
use Rattle.seize_store.proofs.once_of.OnceOf.known.Code as code

pub known_spec : {M : Type 1} → statement M
known_spec 𝓤 𝓛 𝓜 𝓡 wired T L g d kin =
    let H = 𝓛.H in let 𝓣 = tables 𝓤 H 𝓜 𝓡 𝓡.env in let R : RattleType = param 0 T in let LR = param_laws 0 T L in let En = ended T g d in let c = clauses T g d 𝓛 𝓜.mem 𝓡.returns in
    let inst = bounded (a_type ∷ []) (T, tt) (dcons d dnil) in let fn = inst_fn inst code.function in let N : RattleType = Note R LR g 0 in
    let self = RefOf (0 ∷ []) tt (plain (λ _. cell.the_row R g)) (λ _. tt) in
    let hs : Stays En.signature.params En.kept = (stay_dropped self yes, (stay_dropped (plain (λ _. N)) no, tt)) in
    proved_at 𝓛 En hs c 𝓜 𝓡 (Goes-dropped 𝓛 2 self yes (λ κs x f. refl), (Goes-blank 𝓛 2 (plain (λ _. N)) no (λ κs x f. tt), tt)) (#self inst) fn (code.unfolded 𝓤 H 𝓜 𝓡 wired (T, tt) d) (λ z are.
    let κs = z.0.0 in let qs = z.0.1 in let κ : Lft = κs.0 in let q : Share = qs.0 in let μ : Lft = κs.1.0 in let r : Share = qs.1.0 in let a = z.0.3 in
    let Post : Val → SProp 𝓤 = (walk_of 𝓛 En hs c).post z in let Run : List Val → SProp 𝓤 = λ ws. WpFn 𝓤 H 𝓣.C 𝓣.Λ fn ws Post in
    let rb : ℕ = a.0.ref_ptr.0 in let ro : ℕ = a.0.ref_ptr.1 in let own = a.0.now in let f : ℕ = own.0 in let n : N.Denot = a.1.0 in let Asked : Type 0 = (n.cell ≡ cell_name own.1) × IsSome n.known in let Inside : Type 0 = μ ⊑ T.lives in
    let w = one (layout N) z.0.4.1.0 (((noted_laws R LR g 0).lawful 𝓛).typed n z.0.4.1.0 are.1.0) in let Vs : List Val = vptr rb ro ∷ w.0 ∷ [] in
    let G = callee.spec T marker g d (record { number = f }) dict 𝓛 𝓜.mem 𝓡.returns in let k = triple_of 𝓛 (callee.signature T marker g d (record { number = f }) dict) G in
    let y : k.Ghost = (((κ, (μ, ([], tt))), (q, (r, (full_share, tt))), (z.0.2.0, (⊑_static κ, tt)), (record { ref_ptr = (rb, ro + 0); now = own.1 }, (n, tt)), (vptr rb (ro + 0) ∷ [], (w.0 ∷ [], tt))), tt) in let Free : Type 0 = [] ⊑ [] in
    let Out : RattleType = ShrRef (named 0) κ R in let Told : Out.Denot → Type 0 = λ e. n.known ≡ Some e.now in
    qed 𝓛 (((‵ (flft κ q) ⊛ ‵ (flft μ r) ⊛ ‵ ftrue) ⊛ ‵ (owns (types_at En.signature.params κs) z.0.3 z.0.4)) ∷ raw (fact 𝓤 Inside) ∷ raw (fact 𝓤 Asked) ∷ []) ∵
    move ! (1 ∷ []) $ heard ! Inside (λ inside. move ! (1 ∷ []) $ heard ! Asked (λ asked. split ! $ split3 ! $ move ! (3 ∷ []) $ fsplit ! $ fsplit ! $ move ! (2 ∷ []) $ fsplit ! $ keep ! (0 ∷ 3 ∷ 4 ∷ 5 ∷ []) $
    -- [the note; what the cell shares; its token; the other token]
    rewrite ! 0 (λ (us : List Val). ‵ (N.own_val n us)) w.1 refl $
    suffices ! (Run Vs) (subst (λ (us : List Val). ent 𝓤 (Run Vs) (Run us)) (sym (λ i. are.0.0 i ++ (w.1 i ++ []))) (id⊢ 𝓤 (Run Vs))) $
    enter ! 𝓣.C 𝓣.Λ fn Vs Post $ alloc_all ! (λ l. pass_all ! refl ((tt, tt), (w.2, tt)) $
    sets ! (addr ! (through ! refl (fld ! refl (stop !)))) refl (tt, tt) $ sets ! (of_opd ! (get ! refl)) refl w.2 $
    move ! (1 ∷ []) $ feq_i ! (List Val) (vptr rb (ro + 0) ∷ []) (vptr rb (ro + 0) ∷ []) refl $ fjoin ! $ nothing ! $ move ! (2 ∷ 0 ∷ []) $ fjoin ! $ move ! (1 ∷ 0 ∷ []) $ fjoin ! $
    -- [what is passed; the cell's token; the other token]
    nothing ! $ use0 𝓛 (‵ (flft [] full_share)) (𝓛.lfts.lft-nil full_share) $ join ! $ move ! (3 ∷ 0 ∷ []) $ join ! $ move ! (2 ∷ 0 ∷ []) $ join ! $ join ! $
    use0 𝓛 (raw (fact 𝓤 Asked)) (fact_i 𝓤 Asked (emp 𝓤) asked) $ use0 𝓛 (raw (fact 𝓤 Free)) (fact_i 𝓤 Free (emp 𝓤) (⊑_static [])) $ join ! $ use0 𝓛 (raw (fact 𝓤 Inside)) (fact_i 𝓤 Inside (emp 𝓤) inside) $ join ! $ move ! (1 ∷ 0 ∷ []) $ join ! $
    use1 𝓛 (raw (k.pre y)) (id⊢ 𝓤 _) $
    calls_at ! (fm 𝓛 𝓜 𝓡) k (met 𝓤 𝓛 𝓜 𝓡 (code.calls-seize_store::kin::known_in 𝓡.env wired) T marker L marker_laws g d (record { number = f }) dict kin (record {})) y (and_then ! (get ! refl) (and_then ! (get ! refl) (no_more !))) (λ v.
    use1 𝓛 (later (some (λ (e : Out.Denot). ((‵ (flft κ q) ⊛ ‵ (flft μ r) ⊛ ‵ (flft [] full_share) ⊛ ‵ ftrue) ⊛ ‵ (Out.own_val e (v ∷ []))) ⊛
    some (λ (ws : Lasts (callee.ended T marker g d (record { number = f }) dict) y.0.0 y.0.3). ‵ (lasts (callee.ended T marker g d (record { number = f }) dict) y.0.0 y.0.3 ws) ⊛ raw (fact 𝓤 (Told e)))))) (id⊢ 𝓤 _) $
    await ! tt $ pick ! (λ e. split ! $ split ! $ split3 ! $ move ! (2 ∷ []) $ split ! $ drop ! $
    -- [nothing; the cell's token; the other token; what comes back; what is said]
    move ! (2 ∷ 0 ∷ []) $ join ! $ move ! (1 ∷ 0 ∷ []) $ join ! $ move ! (2 ∷ []) $ pick ! (λ ws. split ! $ move ! (1 ∷ []) $ heard ! (Told e) (λ told. move ! (2 ∷ []) $
    peeks ! Out (Is Out) (shows 𝓛 Out) e (v ∷ []) (λ is. lands_as ! refl refl (((shared_laws (record { mir = named 0; lft = κ }) R LR).lawful 𝓛).typed e (v ∷ []) is).0 $
    use0 𝓛 (raw (fact 𝓤 (Told e))) (fact_i 𝓤 (Told e) (emp 𝓤) told) $
    returns ! (look_at ! 0 refl) $ free_all ! refl $ keep ! (3 ∷ 2 ∷ 1 ∷ 0 ∷ []) $ by ! (leaves 𝓛 En hs c z v e ws (tt, (tt, tt))))))))))))
