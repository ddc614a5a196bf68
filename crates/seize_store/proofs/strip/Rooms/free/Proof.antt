-- `free` gives a row's room back.
use Rattle.seize_store.proofs.Kit.{◌≡◌, ℕ, ◌^◌, ◌<◌, List, [], ◌∷◌, ◌++◌, refl, sym, ap, subst, arith, w64, proved_at, leaves, fm, Val, vunit, vint, vptr, SProp, ent, id⊢, Fml, ftrue, fsep, flft, ‵, raw, ◌⊛◌, given, later, at_ret, ◌$◌, ◌∵◌, !, qed, by, move, keep, learn, split, join, fsplit, fjoin, use1, rewrite, suffices, feq_i, await, stop, fld, unit_lit, of_opd, no_more, and_then, first, blocks, exec, returns, enter, alloc_all, pass_all, free_all, look_at, get, get_in, sets, lands_last, env, sub, whole, fact, tables, yes, no, RattleType, owns, types_at, plain, RefOf, block_ptr, nothing, heard, Stays, stay_dropped, walk_of, Goes-dropped}
use Rattle.std.proofs.Common.{◌*◌}
use mir.Syntax.{Ty, a_type, dcons, dnil}
use mir.MapTy.{inst_fn}
use base.Fml.{Incl-trans, froom}
use contract.BorrowLft.{◌⊑◌}
use prog.Memory.{align, capped}
use prog.Capped.{capped_fits}
use prog.Wp.{WpFn}
use types.Kit.{use3}
use types.Run.{bin, size_word, align_word}
use types.ByLocal.{is}
use denote.Param.{param, bounded}
use denote.Triple.Call.{calls_at_last}
use Rattle.core.proofs.alloc.Calls.{Al as Handle, Gives, at_gives, Gives-goes, Gives-Gives}
use Rattle.core.proofs.alloc.Shapes.{after}
use Rattle.seize_store.specs.Body.{plain_ty, row_ty, stride}
use Rattle.seize_store.specs.Row.{Fits}
use Rattle.seize_store.proofs.Pieces.{Rooms, rooms_out, row_align, row_size, three, uncapped}
use Rattle.seize_store.specs.contracts.strip.Rooms.free.{ended, clauses}
use Rattle.seize_store.specs.contracts.strip.Rooms.free.Key.{name as #self}
use Rattle.seize_store.proofs.strip.Rooms.free.Statement.{statement}
use Rattle.seize_store.proofs.strip.Rooms.free.Code as code

pub free_spec : {M : Type 1} → statement M
free_spec 𝓤 𝓛 𝓜 𝓡 wired Y V W Al LY LV LW LA ga da dd met _ =
    let H = 𝓛.H in let 𝓣 = tables 𝓤 H 𝓜 𝓡 𝓡.env in let X : RattleType = param 0 Y in let U : RattleType = param 1 V in let R : RattleType = param 2 W in let Z : RattleType = param 3 Al in let Ro : RattleType = Rooms X U R Z ga in let s : ℕ = stride X U R in
    let En = ended Y V W Al ga da dd in let c = clauses Y V W Al ga da dd 𝓛 𝓜.mem 𝓡.returns in let inst = bounded (a_type ∷ a_type ∷ a_type ∷ a_type ∷ []) (Y, (V, (W, (Al, tt)))) (dcons da (dcons dd dnil)) in let fn = inst_fn inst code.function in
    let Hd : Handle = record { row = Al; laws = LA; g = ga; d = da; drops = dd } in let al : ℕ = capped (align (plain_ty X U R)) in let handle = RefOf (0 ∷ []) tt (plain (λ _. Z)) (λ _. tt) in
    let hs : Stays En.signature.params En.kept = (stay_dropped (plain (λ _. Ro)) no, (stay_dropped handle yes, tt)) in
    proved_at 𝓛 En hs c 𝓜 𝓡 (Goes-dropped 𝓛 5 (plain (λ _. Ro)) no (λ κs x f. refl), (Goes-dropped 𝓛 5 handle yes (λ κs x f. refl), tt)) (#self inst) fn (code.unfolded 𝓤 H 𝓜 𝓡 wired (Y, (V, (W, (Al, tt)))) da dd) (λ y are.
    let κs = y.0.0 in let qs = y.0.1 in let bounds = y.0.2 in let a = y.0.3 in let h : Ro.Denot = a.0 in let hp : ℕ × ℕ = a.1.0.ref_ptr in let heap : Al.Denot = a.1.0.now in let n : ℕ = h.len in let τ : Ty = row_ty X U R n in let size : ℕ = n * s in let κ : base.Fml.Lft = κs.0 in
    let Post : Val → SProp 𝓤 = (walk_of 𝓛 En hs c).post y in let Run : List Val → SProp 𝓤 = λ ws. WpFn 𝓤 H 𝓣.C 𝓣.Λ fn ws Post in
    let others : Fml = fsep (flft κs.1.0 qs.1.0) (fsep (flft κs.1.1.0 qs.1.1.0) (fsep (flft κs.1.1.1.0 qs.1.1.1.0) (fsep (flft κs.1.1.1.1.0 qs.1.1.1.1.0) ftrue))) in let Inside : Type 0 = κs.1.1.1.1.0 ⊑ Al.lives in let Asked : Type 0 = (h.heap ≡ heap) × Fits X U R n in
    qed 𝓛 (((‵ (flft κ qs.0) ⊛ ‵ others) ⊛ ‵ (owns (types_at En.signature.params κs) a y.0.4)) ∷ raw (fact 𝓤 _) ∷ raw (fact 𝓤 _) ∷ raw (fact 𝓤 _) ∷ raw (fact 𝓤 Inside) ∷ raw (fact 𝓤 Asked) ∷ []) ∵
    keep ! (4 ∷ 5 ∷ 0 ∷ []) $ heard ! Inside (λ inside. heard ! Asked (λ asked. let small : size < 2 ^ 64 = (let x = asked.1 in omega arith) in split ! $ split ! $ move ! (2 ∷ []) $ fsplit ! $ rooms_out X U R Z ga ! h y.0.4.0 (λ b o e ws fits. fsplit ! $
    -- [the room; the right to free it; the other parameters; the token; others]
    move ! (2 ∷ []) $ fsplit ! $ fsplit ! $ keep ! (3 ∷ 4 ∷ 1 ∷ 5 ∷ 6 ∷ []) $
    rewrite ! 1 (λ (u : Al.Denot). ‵ (ga.dealloc_token u τ (block_ptr b o))) asked.0 refl $
    let w : Val = three (vptr b o) n in let us : List Val = w ∷ vptr hp.0 hp.1 ∷ [] in
    suffices ! (Run us) (subst (λ (vs : List Val). ent 𝓤 (Run us) (Run vs)) (sym (λ i. ws i ++ (are.1.0.0 i ++ []))) (id⊢ 𝓤 (Run us))) $
    enter ! 𝓣.C 𝓣.Λ fn us Post $ alloc_all ! (λ l. pass_all ! refl ((tt, (tt, (record { fits = fits }, (tt, tt)))), ((tt, tt), tt)) $ let Ev = env fn.locals l in
    sets ! (of_opd ! (get_in ! (fld ! refl (stop !)) (sub ! 0 refl (whole !)))) refl (tt, tt) $ sets ! (of_opd ! (get_in ! (fld ! refl (stop !)) (sub ! 1 refl (whole !)))) refl (tt, record { fits = fits }) $ first ! $ blocks ! $ sets ! (of_opd ! (get ! refl)) refl (tt, tt) $
    sets ! (is ! (bin ! (get ! refl) (size_word !) (record { fits = subst (λ (j : ℕ). j < 2 ^ 64) (sym (uncapped n s small)) small })) (ap (vint w64) (uncapped n s small))) refl (tt, record { fits = small }) $
    let Asks = Gives Hd 𝓛 𝓜.mem 𝓡.returns in let v : Asks.Ghost = at_gives Hd 𝓛 𝓜.mem 𝓡.returns κ qs.0 hp heap b o size al τ in
    move ! (2 ∷ 3 ∷ []) $ join ! $ move ! (1 ∷ 2 ∷ 0 ∷ []) $
    use3 𝓛 (raw (Asks.pre v)) (Gives-goes Hd 𝓛 𝓜.mem 𝓡.returns κ qs.0 hp heap (Incl-trans bounds.0 inside) b o size al τ (row_size X U R n small) (row_align X U R n) small (capped_fits (align (plain_ty X U R)))) $
    calls_at_last ! (fm 𝓛 𝓜 𝓡) Asks (met.deallocate dd) v (and_then ! (get ! refl) (and_then ! (get ! refl) (and_then ! (get ! refl) (and_then ! (align_word !) (no_more !))))) (λ u.
    use1 𝓛 (later (given (u ≡ vunit) (‵ (flft κ qs.0)))) (Gives-Gives Hd 𝓛 𝓜.mem 𝓡.returns κ qs.0 hp heap b o size al τ u) $ await ! tt $ learn ! (λ is_unit. lands_last ! refl (subst (λ (z : Val). lib.Dec.T (mir.Val.has_ty mir.Syntax.ty_unit z) × mir.Val.WT z) (sym is_unit) (tt, tt)) $
    exec ! 𝓣.C 𝓣.Λ Ev (after 3 fn.body) (at_ret Ev Post) $ sets ! (of_opd ! (unit_lit !)) refl (tt, tt) $ move ! (0 ∷ 1 ∷ []) $ join ! $ nothing ! $ feq_i ! (List Val) (vunit ∷ []) (vunit ∷ []) refl $ nothing ! $ nothing ! $ fjoin ! $ nothing ! $ fjoin ! $
    returns ! (look_at ! 0 refl) $ free_all ! refl $ keep ! (3 ∷ 0 ∷ 1 ∷ 2 ∷ []) $ by ! (leaves 𝓛 En hs c y vunit tt (tt, (tt, tt)) (tt, (tt, tt))))))))))
