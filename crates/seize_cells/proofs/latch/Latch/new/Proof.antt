-- `new` lays the token beside the word.
use Rattle.seize_content.proofs.Kit.{◌≡◌, ℕ, ◌^◌, List, [], ◌∷◌, refl, proved, leaves, lit<, w64, Val, vint, vstruct, vcons, vnil, SProp, emp, ftrue, ‵, raw, ◌⊛◌, ◌$◌, ◌∵◌, !, qed, by, move, keep, split, fsplit, fjoin, fpack, feq_i, flt_i, use0, lit, no_more, and_then, returns, enter, alloc_all, pass_all, free_all, look_at, sets, agg, fact, fact_i, tables, yes, u64, RattleType, Valss, owns, types_at, plain, nothing, Stays, stay_dropped, walk_of, Goes-dropped}
use Rattle.std.proofs.Common.{Option, Some}
use base.Stored.{Gv}
use denote.Laws.{Typed}
use denote.Struct.Struct.{within}
use Rattle.seize_content.proofs.Fields.{token}
use Rattle.seize_cells.specs.Latches.{side, latch_has}
use Rattle.seize_content.proofs.Tokens.{no_bytes, cell_token_tells}
use Rattle.seize_content.specs.contracts.token_cell.CellToken as right
use Rattle.seize_cells.specs.contracts.latch.Latch as latch
use Rattle.seize_cells.specs.contracts.latch.Latch.TheInside as inside
use Rattle.seize_cells.specs.contracts.latch.Latch.new.{ended, clauses}
use Rattle.seize_cells.specs.contracts.latch.Latch.new.Key.{name as #self}
use Rattle.seize_cells.proofs.latch.Latch.new.Statement.{statement}
use Rattle.seize_cells.proofs.latch.Latch.new.Code as code

pub new_spec : {M : Type 1} → statement M
new_spec 𝓤 𝓛 𝓜 𝓡 wired =
    let H = 𝓛.H in let 𝓣 = tables 𝓤 H 𝓜 𝓡 𝓡.env in let En = ended in let fn = code.function in let c = clauses 𝓛 𝓜.mem 𝓡.returns in let S : RattleType = right.the_row in let F : RattleType = inside.the_row in let D = denote.Struct.Declared.shape inside.the_type in
    let item = plain (λ _. S) in let hs : Stays En.signature.params En.kept = (stay_dropped item yes, tt) in
    proved 𝓛 En hs c 𝓜 𝓡 (Goes-dropped 𝓛 0 item yes (λ κs x f. refl), tt) #self fn (code.unfolded 𝓤 H 𝓜 𝓡 wired) (λ κs. (no_bytes, tt)) (λ κs. (cell_token_tells, tt)) (λ κs qs bounds a gh are.
    let t : S.Denot = a.0 in let g : Gv = t.value in let v : Val = vstruct (vcons (vint w64 0) vnil) in let r : latch.the_row.Denot = t.name in
    let y : (walk_of 𝓛 En hs c).Ghost = ((κs, qs, bounds, a, (token ∷ [], tt)), gh) in let Post : Val → SProp 𝓤 = (walk_of 𝓛 En hs c).post y in
    qed 𝓛 ((‵ ftrue ⊛ ‵ (owns (types_at En.signature.params κs) a y.0.4)) ∷ raw ((c κs a).requires gh) ∷ []) ∵ split ! $ keep ! (0 ∷ 1 ∷ []) $ move ! (1 ∷ []) $ fsplit ! $ fsplit ! $ move ! (1 ∷ []) $
    -- [what the token owns; its fields; nothing; the tokens]
    fpack ! (Option Gv) (side t.name 0) (Some g) $
    flt_i ! 0 (2 ^ 64) (lit< tt) $ feq_i ! (List Val) (vint w64 0 ∷ []) (vint w64 0 ∷ []) refl $ fjoin ! $ nothing ! $ move ! (1 ∷ 0 ∷ []) $ fjoin ! $
    feq_i ! (List Val) (v ∷ []) (v ∷ []) refl $ fjoin ! $ fpack ! (Valss (u64 ∷ [])) (within D (0, tt) (v ∷ [])) (vint w64 0 ∷ [], tt) $
    move ! (0 ∷ 1 ∷ []) $ fjoin ! $ fpack ! ℕ (latch_has t.name (λ n. F.own_val (record { taken = n }) (v ∷ []))) 0 $ nothing ! $ fpack ! (Typed F.mir (v ∷ [])) (λ _. ftrue) ((tt, (record { fits = lit< tt }, tt)), tt) $ fjoin ! $
    -- [the latch; the token's fields; nothing; the tokens]
    move ! (0 ∷ 3 ∷ []) $
    enter ! 𝓣.C 𝓣.Λ fn (token ∷ []) Post $ alloc_all ! (λ l. pass_all ! refl ((tt, (tt, tt)), tt) $
    sets ! (agg ! (and_then ! (lit ! tt) (no_more !))) refl (tt, (record { fits = lit< tt }, tt)) $
    let Told : Type 0 = t.name ≡ t.name in use0 𝓛 (raw (fact 𝓤 Told)) (fact_i 𝓤 Told (emp 𝓤) refl) $ nothing ! $ nothing ! $ fjoin ! $
    returns ! (look_at ! 0 refl) $ free_all ! refl $ keep ! (3 ∷ 0 ∷ 2 ∷ 1 ∷ []) $ by ! (leaves 𝓛 En hs c y v r (tt, tt) (tt, tt))))
