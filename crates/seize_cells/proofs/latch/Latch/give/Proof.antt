-- `give` lays the token back at one step.
use Rattle.seize_content.proofs.Kit.{◌≡◌, ℕ, ◌+◌, List, [], ◌∷◌, refl, lit<, w64, proved, fm, stored, has_stored, seq_cst, stores, named, Val, vint, vunit, vptr, SProp, wand, emp, via, apply∗, Lft, Share, Fml, ftrue, fsep, flft, fbor, ‵, raw, ◌⊛◌, some, later, mean, at_ret, ◌$◌, ◌∵◌, !, qed, by, move, keep, split, fsplit, fjoin, fpick, pick, use2, use3, await, rewrite, feq_i, stop, fld, addr, lit, unit_lit, of_opd, no_more, and_then, first, blocks, exec, Calls-last, returns, enter, alloc_all, pass_all, free_all, look_at, get, through, sets, lands_last, env, agg, fact, tables, Lends-one, yes, RattleType, owns, types_at, plain, RefOf, shr_vals, shr_Tells, block_ptr, unhide, nothing, heard, Stays, stay_dropped, walk_of, Goes-dropped, tail}
use base.Logic.{id⊢}
use base.Stored.{Gv}
use Rattle.seize_content.proofs.Fields.{token, ends}
use Rattle.seize_content.specs.Cells.{cell_token}
use Rattle.seize_cells.specs.Latches.{Inv}
use Rattle.seize_content.specs.contracts.token_cell.CellToken as right
use Rattle.seize_cells.specs.contracts.latch.Latch as latch
use Rattle.seize_cells.proofs.Latches as steps
use Rattle.seize_content.proofs.Tokens.{no_bytes, cell_token_tells}
use Rattle.seize_cells.specs.contracts.latch.Latch.give.{ended, clauses}
use Rattle.seize_cells.specs.contracts.latch.Latch.give.Key.{name as #self}
use Rattle.seize_cells.proofs.latch.Latch.give.Statement.{statement}
use Rattle.seize_cells.proofs.latch.Latch.give.Code as code

pub give_spec : {M : Type 1} → statement M
give_spec 𝓤 𝓛 𝓜 𝓡 wired =
    let H = 𝓛.H in let 𝓣 = tables 𝓤 H 𝓜 𝓡 𝓡.env in let fn = code.function in let c = clauses 𝓛 𝓜.mem 𝓡.returns in let S : RattleType = right.the_row in
    let self = RefOf (0 ∷ []) tt (plain (λ _. latch.the_row)) (λ _. tt) in let item = plain (λ _. S) in let hs : Stays ended.signature.params ended.kept = (stay_dropped self yes, (stay_dropped item yes, tt)) in
    proved 𝓛 ended hs c 𝓜 𝓡 (Goes-dropped 𝓛 1 self yes (λ κs x f. refl), (Goes-dropped 𝓛 1 item yes (λ κs x f. refl), tt)) #self fn (code.unfolded 𝓤 H 𝓜 𝓡 wired)
    (λ κs. (shr_vals, (no_bytes, tt))) (λ κs. (shr_Tells (named 0) κs.0 latch.the_row, (cell_token_tells, tt))) (λ κs qs bounds a gh are.
    let γ : ℕ = a.0.now in let b : ℕ = a.0.ref_ptr.0 in let o : ℕ = a.0.ref_ptr.1 in let κ : Lft = κs.0 in let q : Share = qs.0 in let t : S.Denot = a.1.0 in let g : Gv = t.value in
    let y : (walk_of 𝓛 ended hs c).Ghost = ((κs, qs, bounds, a, (vptr b o ∷ [], (token ∷ [], tt))), gh) in let Post : Val → SProp 𝓤 = (walk_of 𝓛 ended hs c).post y in let toks : Fml = fsep (flft κ q) ftrue in let Asked : Type 0 = t.name ≡ γ in
    qed 𝓛 ((‵ toks ⊛ ‵ (owns (types_at ended.signature.params κs) a y.0.4)) ∷ raw (fact 𝓤 Asked) ∷ []) ∵ move ! (1 ∷ 0 ∷ []) $ heard ! Asked (λ asked. split ! $ fsplit ! $ move ! (2 ∷ []) $ fsplit ! $ fsplit ! $ keep ! (1 ∷ 2 ∷ 3 ∷ []) $
    move ! (1 ∷ []) $ fsplit ! $ fsplit ! $ keep ! (1 ∷ 3 ∷ 4 ∷ []) $ rewrite ! 0 (λ (k : ℕ). ‵ (cell_token k g)) asked refl $
    -- [what the token owns; the latch; the token]
    enter ! 𝓣.C 𝓣.Λ fn (vptr b o ∷ token ∷ []) Post $ alloc_all ! (λ l. pass_all ! refl ((tt, tt), ((tt, (tt, tt)), tt)) $ let Ev = env fn.locals l in
    move ! (1 ∷ []) $ unhide ! $ fpick ! (λ ν. let J : Fml = fbor ν (Inv γ b o) in fsplit ! $ move ! (0 ∷ 3 ∷ []) $
    use2 𝓛 (later (some (λ (s : Share). ‵ (flft ν s) ⊛ raw (wand 𝓤 (𝓛.A.lft ν s) (H.⇛ (𝓛.A.lft κ q)))))) (Lends-one 𝓛 𝓜 𝓡 κ ν q) $ await ! tt $ pick ! (λ s. split ! $
    -- [the token; the way back; the invariant; what the token owns]
    let after : Fml = fsep (flft ν s) ftrue in
    first ! $ blocks ! $ sets ! (addr ! (through ! refl (fld ! refl (stop !)))) refl (tt, tt) $ move ! (2 ∷ 0 ∷ 3 ∷ []) $
    use3 𝓛 (raw (𝓣.C _ (vptr b (o + 0) ∷ vint w64 0 ∷ seq_cst ∷ []) (λ u. mean 𝓛 (stored after u))))
    (via 𝓤 _ (steps.gives 𝓛 b o γ ν s g) (stores 𝓛 𝓜 𝓡 (code.calls-core::raw_atomic::store 𝓡.env wired) (block_ptr b (o + 0)) 0 (lit< tt) after)) $
    sets ! (agg ! (and_then ! (lit ! tt) (no_more !))) refl (tt, (record { fits = lit< tt }, tt)) $
    Calls-last ! (fm 𝓛 𝓜 𝓡) (stored after) (and_then ! (get ! refl) (and_then ! (lit ! tt) (and_then ! (get ! refl) (no_more !)))) (λ u. has_stored ! after (
    lands_last ! refl (tt, tt) $ exec ! 𝓣.C 𝓣.Λ Ev (tail fn.body) (at_ret Ev Post) $ sets ! (of_opd ! (unit_lit !)) refl (tt, tt) $
    fsplit ! $ move ! (0 ∷ 2 ∷ []) $ use2 𝓛 (later (‵ (flft κ q))) (apply∗ 𝓤 (𝓛.A.lft ν s) (H.⇛ (𝓛.A.lft κ q))) $ await ! tt $
    nothing ! $ move ! (1 ∷ 0 ∷ []) $ fjoin ! $ feq_i ! (List Val) (vunit ∷ []) (vunit ∷ []) refl $ nothing ! $ nothing ! $ fjoin ! $ nothing ! $ fjoin ! $
    -- [the parameters; the result; the token]
    returns ! (look_at ! 0 refl) $ free_all ! refl $ keep ! (2 ∷ 0 ∷ 1 ∷ []) $
    by ! (ends 𝓛 ended hs c y vunit tt (tt, (tt, tt)) (tt, (tt, tt)) (id⊢ 𝓤 (emp 𝓤))))))))))
