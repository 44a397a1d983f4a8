-- A run from a world of the code's sizes reaches a world of those sizes, which is sound exactly where the first was: so the next part of a
-- log finds the soundness that the one before it found. Assumes nothing.
use Prim.Native.Nat.{ℕ, ◌+◌, ◌-◌, ◌^◌, ◌≤◌, ◌<◌}
use native.Mathlib.Omega.{arith}
use mathlib.Core.Path.{◌≡◌, refl, sym, ap, subst, ◌∙◌}
use mathlib.Core.Bool.{Bool, true, false}
use mathlib.Core.List.{List, ◌++◌}
use lib.Dec.{ltb}
use lib.ListN.{length, drop, get_or, get_or-append, get_or-eq_default}
use lib.Seq.{get_or-drop, get_or-append-add}
use borrow.Author.Tests.{ltb-true, ltb-false}
use Rattle.world.specs.declared.World.{World}
use Rattle.step.specs.declared.Acted.{Acted}
use Rattle.sound.specs.Sound.{sound_world}
use Rattle.acts.specs.declared.Fields.{Fields}
use Rattle.acts.specs.Acts.{act_of}
use Rattle.acts.proofs.Laws.{unsound-refused}
use Rattle.kept.specs.Shape.{Shaped}
use Rattle.keeps.proofs.Keeps.{act-sound, act-shaped}
use Rattle.replay_log.specs.declared.State.{State}
use Rattle.replay_log.specs.Run.{fields_of, answer_of, noted, Run, record_state}
use Rattle.parts.specs.Parts.{Bytes}
use Rattle.parts.proofs.Turns.{by-records}
use Rattle.parts.specs.Flags.{Kept}
use Rattle.parts.specs.Statements.{RunKeeps}

-- bytes, and the bytes of parts
pub bytes_drop : (n : ℕ) (l : List ℕ) → Bytes l → Bytes (drop n l)
bytes_drop n l b k = subst (λ (x : ℕ). x < 256) (sym (get_or-drop n l k 0)) (b (n + k))

pub bytes_back : (l more : List ℕ) → Bytes (l ++ more) → Bytes more
bytes_back l more b k = subst (λ (x : ℕ). x < 256) (get_or-append-add l more k 0) (b (length l + k))

pub bytes-front : (l more : List ℕ) → Bytes (l ++ more) → Bytes l
bytes-front l more b k = by (ltb k (length l)) refl
  where
    by : (c : Bool) → ltb k (length l) ≡ c → get_or l k 0 < 256
    by true e = subst (λ (x : ℕ). x < 256) (get_or-append l more 0 k (ltb-true k (length l) e)) (b k)
    by false e = let z : get_or l k 0 ≡ 0 = get_or-eq_default l 0 (ltb-false k (length l) e) in omega arith

pub bytes-join : (l more : List ℕ) → Bytes l → Bytes more → Bytes (l ++ more)
bytes-join l more a b k = by (ltb k (length l)) refl
  where
    by : (c : Bool) → ltb k (length l) ≡ c → get_or (l ++ more) k 0 < 256
    by true e = subst (λ (x : ℕ). x < 256) (sym (get_or-append l more 0 k (ltb-true k (length l) e))) (a k)
    by false e =
        let h : length l ≤ k = ltb-false k (length l) e in
        let q : length l + (k - length l) ≡ k = omega arith in
        let z : get_or (l ++ more) (length l + (k - length l)) 0 ≡ get_or more (k - length l) 0 = get_or-append-add l more (k - length l) 0 in
        subst (λ (n : ℕ). get_or (l ++ more) n 0 < 256) q (subst (λ (x : ℕ). x < 256) (sym z) (b (k - length l)))

-- a value of four bytes has 32 bits
pub value-wide : (l : List ℕ) → Bytes l → (fields_of l).value < 2 ^ 32
value-wide l b = omega (arith, b 6, b 7, b 8, b 9)

-- an act leaves a world sound or not, as it was
pub act-flag : (w : World) (a : Fields) → Shaped w → a.value < 2 ^ 32 → sound_world (act_of w a).world ≡ sound_world w
act-flag w a s h = by (sound_world w) refl
  where
    by : (c : Bool) → sound_world w ≡ c → sound_world (act_of w a).world ≡ sound_world w
    by true e = act-sound w a e s h ∙ sym e
    by false e = ap (λ (r : Acted). sound_world r.world) (unsound-refused w a e)

-- the answer of a run that has found the world's soundness is the act's
pub answer-is-act : (sound : Bool) (w : World) (a : Fields) → sound_world w ≡ sound → answer_of sound w a ≡ act_of w a
unfolding answer_of act_of
answer-is-act sound w a e = rw e

pub next-world :
    (sound : Bool) (l : List ℕ) (s : State) → sound_world s.world ≡ sound →
    (record_state sound l s).world ≡ (act_of s.world (fields_of l)).world
unfolding noted
next-world sound l s e = ap (λ (r : Acted). r.world) (answer-is-act sound s.world (fields_of l) e)

pub record-keeps : (sound : Bool) (l : List ℕ) (s : State) → Bytes l → Kept sound s → Kept sound (record_state sound l s)
record-keeps sound l s b k =
    let z : (act_of s.world (fields_of l)).world ≡ (record_state sound l s).world = sym (next-world sound l s k.flag) in
    record {
      shaped = subst Shaped z (act-shaped s.world (fields_of l) k.shaped (value-wide l b));
      flag = ap sound_world (sym z) ∙ (act-flag s.world (fields_of l) k.shaped (value-wide l b) ∙ k.flag);
    }

-- and so a run
pub run-keeps : RunKeeps
run-keeps room l s h b =
    by-records (sound_world s.world)
    (λ (n : ℕ) (x : List ℕ) (t : State) (r : Run). Bytes x → Kept (sound_world s.world) t → Kept (sound_world s.world) r.state)
    (λ n x t d c k. k)
    (λ n x t d event f c k. k)
    (λ n x t d number e z f c k. record { shaped = k.shaped; flag = k.flag })
    (λ n x t d e f rest p c k. p (bytes_drop 10 x c) (record-keeps (sound_world s.world) x t c k))
    room l s b (record { shaped = h; flag = refl })
