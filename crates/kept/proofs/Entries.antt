-- What a call just begun has: its values have passed, it asks for the hold that it frees or downgrades and for no other, and it neither
-- waits nor is in a closure. Assumes nothing.
use mathlib.Core.Path.{◌≡◌, refl}
use mathlib.Core.Logic.{◌⊎◌, inl, inr}
use mathlib.Core.Bool.{true, false, cond}
use Prim.Native.Nat.{ℕ}
use lib.Dec.{eqb}
use borrow.Author.Tests.{eqb-true}
use Rattle.words.proofs.Cond.{either}
use Rattle.words.specs.declared.Needs.{Needs}
use Rattle.words.specs.declared.Needs.TheVariants as N
use Rattle.mutex.specs.Mutex as Mx
use Rattle.rwlock.specs.RwLock as Rw
use Rattle.rwlock.specs.Positions as RwP
use Rattle.condvar.specs.Condvar as Cv
use Rattle.once.specs.Once as On
use Rattle.thread_parking.specs.ThreadParking as Pk
use Rattle.calls.specs.declared.At.{At}
use Rattle.calls.specs.Positions.{entry_of, in_closure, need_of, passed_of, waits_of}
use Rattle.kept.proofs.Tests.{decided}

-- the hold that a call asks for from its start, by its number
unfoldable pub entry_needs : ℕ → Needs
entry_needs call =
    cond (eqb call 2) N.Mutex
    (cond (eqb call 5) N.Read
    (cond (eqb call 8) N.Write
    (cond (eqb call 9) N.Write
    (cond (eqb call 10) N.Mutex
    N.Nothing))))

module _ (call object mutex : ℕ) where
  pub passed_entry : passed_of (entry_of call object mutex) ≡ true
  unfolding entry_of Mx.entry_of Rw.entry_of Cv.entry_of On.entry_of Pk.entry_of passed_of Mx.passed_of Mx.lock_passed RwP.passed_of RwP.read_passed RwP.try_read_passed RwP.write_passed RwP.try_write_passed Cv.passed_of Cv.wait_passed On.passed_of On.call_passed On.wait_passed Pk.passed_of
  passed_entry =
      either (λ (at : At). passed_of at ≡ true) (eqb call 0) _ _ refl
      (either (λ (at : At). passed_of at ≡ true) (eqb call 1) _ _ refl
      (either (λ (at : At). passed_of at ≡ true) (eqb call 2) _ _ refl
      (either (λ (at : At). passed_of at ≡ true) (eqb call 3) _ _ refl
      (either (λ (at : At). passed_of at ≡ true) (eqb call 4) _ _ refl
      (either (λ (at : At). passed_of at ≡ true) (eqb call 5) _ _ refl
      (either (λ (at : At). passed_of at ≡ true) (eqb call 6) _ _ refl
      (either (λ (at : At). passed_of at ≡ true) (eqb call 7) _ _ refl
      (either (λ (at : At). passed_of at ≡ true) (eqb call 8) _ _ refl
      (either (λ (at : At). passed_of at ≡ true) (eqb call 9) _ _ refl
      (either (λ (at : At). passed_of at ≡ true) (eqb call 10) _ _ refl
      (either (λ (at : At). passed_of at ≡ true) (eqb call 11) _ _ refl
      (either (λ (at : At). passed_of at ≡ true) (eqb call 12) _ _ refl
      (either (λ (at : At). passed_of at ≡ true) (eqb call 13) _ _ refl
      (either (λ (at : At). passed_of at ≡ true) (eqb call 14) _ _ refl
      (either (λ (at : At). passed_of at ≡ true) (eqb call 15) _ _ refl
      (either (λ (at : At). passed_of at ≡ true) (eqb call 16) _ _ refl
      (either (λ (at : At). passed_of at ≡ true) (eqb call 17) _ _ refl
      (either (λ (at : At). passed_of at ≡ true) (eqb call 18) _ _ refl
      (either (λ (at : At). passed_of at ≡ true) (eqb call 19) _ _ refl
      refl)))))))))))))))))))

  pub awake-entry : waits_of (entry_of call object mutex) ≡ false
  unfolding entry_of Mx.entry_of Rw.entry_of Cv.entry_of On.entry_of Pk.entry_of waits_of Mx.waits_of Mx.lock_waits RwP.waits_of RwP.read_wait_next RwP.write_wait_next Cv.waits_of Cv.wait_waits On.waits_of On.call_waits On.wait_waits Pk.waits_of Pk.park_waits
  awake-entry =
      either (λ (at : At). waits_of at ≡ false) (eqb call 0) _ _ refl
      (either (λ (at : At). waits_of at ≡ false) (eqb call 1) _ _ refl
      (either (λ (at : At). waits_of at ≡ false) (eqb call 2) _ _ refl
      (either (λ (at : At). waits_of at ≡ false) (eqb call 3) _ _ refl
      (either (λ (at : At). waits_of at ≡ false) (eqb call 4) _ _ refl
      (either (λ (at : At). waits_of at ≡ false) (eqb call 5) _ _ refl
      (either (λ (at : At). waits_of at ≡ false) (eqb call 6) _ _ refl
      (either (λ (at : At). waits_of at ≡ false) (eqb call 7) _ _ refl
      (either (λ (at : At). waits_of at ≡ false) (eqb call 8) _ _ refl
      (either (λ (at : At). waits_of at ≡ false) (eqb call 9) _ _ refl
      (either (λ (at : At). waits_of at ≡ false) (eqb call 10) _ _ refl
      (either (λ (at : At). waits_of at ≡ false) (eqb call 11) _ _ refl
      (either (λ (at : At). waits_of at ≡ false) (eqb call 12) _ _ refl
      (either (λ (at : At). waits_of at ≡ false) (eqb call 13) _ _ refl
      (either (λ (at : At). waits_of at ≡ false) (eqb call 14) _ _ refl
      (either (λ (at : At). waits_of at ≡ false) (eqb call 15) _ _ refl
      (either (λ (at : At). waits_of at ≡ false) (eqb call 16) _ _ refl
      (either (λ (at : At). waits_of at ≡ false) (eqb call 17) _ _ refl
      (either (λ (at : At). waits_of at ≡ false) (eqb call 18) _ _ refl
      (either (λ (at : At). waits_of at ≡ false) (eqb call 19) _ _ refl
      refl)))))))))))))))))))

  pub outside-entry : in_closure (entry_of call object mutex) ≡ false
  unfolding entry_of Mx.entry_of Rw.entry_of Cv.entry_of On.entry_of Pk.entry_of in_closure On.in_closure On.call_in_closure
  outside-entry =
      either (λ (at : At). in_closure at ≡ false) (eqb call 0) _ _ refl
      (either (λ (at : At). in_closure at ≡ false) (eqb call 1) _ _ refl
      (either (λ (at : At). in_closure at ≡ false) (eqb call 2) _ _ refl
      (either (λ (at : At). in_closure at ≡ false) (eqb call 3) _ _ refl
      (either (λ (at : At). in_closure at ≡ false) (eqb call 4) _ _ refl
      (either (λ (at : At). in_closure at ≡ false) (eqb call 5) _ _ refl
      (either (λ (at : At). in_closure at ≡ false) (eqb call 6) _ _ refl
      (either (λ (at : At). in_closure at ≡ false) (eqb call 7) _ _ refl
      (either (λ (at : At). in_closure at ≡ false) (eqb call 8) _ _ refl
      (either (λ (at : At). in_closure at ≡ false) (eqb call 9) _ _ refl
      (either (λ (at : At). in_closure at ≡ false) (eqb call 10) _ _ refl
      (either (λ (at : At). in_closure at ≡ false) (eqb call 11) _ _ refl
      (either (λ (at : At). in_closure at ≡ false) (eqb call 12) _ _ refl
      (either (λ (at : At). in_closure at ≡ false) (eqb call 13) _ _ refl
      (either (λ (at : At). in_closure at ≡ false) (eqb call 14) _ _ refl
      (either (λ (at : At). in_closure at ≡ false) (eqb call 15) _ _ refl
      (either (λ (at : At). in_closure at ≡ false) (eqb call 16) _ _ refl
      (either (λ (at : At). in_closure at ≡ false) (eqb call 17) _ _ refl
      (either (λ (at : At). in_closure at ≡ false) (eqb call 18) _ _ refl
      (either (λ (at : At). in_closure at ≡ false) (eqb call 19) _ _ refl
      refl)))))))))))))))))))

  pub entry-needs : (need_of (entry_of call object mutex)).hold ≡ entry_needs call
  unfolding entry_of Mx.entry_of Rw.entry_of Cv.entry_of On.entry_of Pk.entry_of need_of Mx.needs_of Mx.unlock_needs RwP.needs_of RwP.downgrade_needs Cv.needs_of Cv.wait_needs On.needs_of Pk.needs_of entry_needs
  entry-needs =
      decided P (eqb call 0) _ _ (λ e. rw (eqb-true call 0 e))
      (λ _. decided P (eqb call 1) _ _ (λ e. rw (eqb-true call 1 e))
      (λ _. decided P (eqb call 2) _ _ (λ e. rw (eqb-true call 2 e))
      (λ e2. decided P (eqb call 3) _ _ (λ e. rw (eqb-true call 3 e))
      (λ _. decided P (eqb call 4) _ _ (λ e. rw (eqb-true call 4 e))
      (λ _. decided P (eqb call 5) _ _ (λ e. rw (eqb-true call 5 e))
      (λ e5. decided P (eqb call 6) _ _ (λ e. rw (eqb-true call 6 e))
      (λ _. decided P (eqb call 7) _ _ (λ e. rw (eqb-true call 7 e))
      (λ _. decided P (eqb call 8) _ _ (λ e. rw (eqb-true call 8 e))
      (λ e8. decided P (eqb call 9) _ _ (λ e. rw (eqb-true call 9 e))
      (λ e9. decided P (eqb call 10) _ _ (λ e. rw (eqb-true call 10 e))
      (λ e10. decided P (eqb call 11) _ _ (λ e. rw (eqb-true call 11 e))
      (λ _. decided P (eqb call 12) _ _ (λ e. rw (eqb-true call 12 e))
      (λ _. decided P (eqb call 13) _ _ (λ e. rw (eqb-true call 13 e))
      (λ _. decided P (eqb call 14) _ _ (λ e. rw (eqb-true call 14 e))
      (λ _. decided P (eqb call 15) _ _ (λ e. rw (eqb-true call 15 e))
      (λ _. decided P (eqb call 16) _ _ (λ e. rw (eqb-true call 16 e))
      (λ _. decided P (eqb call 17) _ _ (λ e. rw (eqb-true call 17 e))
      (λ _. decided P (eqb call 18) _ _ (λ e. rw (eqb-true call 18 e))
      (λ _. decided P (eqb call 19) _ _ (λ e. rw (eqb-true call 19 e))
      (λ _. simp (e2, e5, e8, e9, e10)))))))))))))))))))))
    where
      P : At → Type 0
      P at = (need_of at).hold ≡ entry_needs call

  -- of the object named, or of the mutex that a condvar wait names
  pub entry-object : ((need_of (entry_of call object mutex)).hold ≡ N.Nothing) ⊎ ((need_of (entry_of call object mutex)).object ≡ cond (eqb call 10) mutex object)
  unfolding entry_of Mx.entry_of Rw.entry_of Cv.entry_of On.entry_of Pk.entry_of need_of Mx.needs_of Mx.unlock_needs RwP.needs_of RwP.downgrade_needs Cv.needs_of Cv.wait_needs Cv.mutex_of On.needs_of Pk.needs_of
  entry-object =
      decided P (eqb call 0) _ _ (λ _. inl refl)
      (λ _. decided P (eqb call 1) _ _ (λ _. inl refl)
      (λ _. decided P (eqb call 2) _ _ (λ e. inr (rw (eqb-true call 2 e)))
      (λ _. decided P (eqb call 3) _ _ (λ _. inl refl)
      (λ _. decided P (eqb call 4) _ _ (λ _. inl refl)
      (λ _. decided P (eqb call 5) _ _ (λ e. inr (rw (eqb-true call 5 e)))
      (λ _. decided P (eqb call 6) _ _ (λ _. inl refl)
      (λ _. decided P (eqb call 7) _ _ (λ _. inl refl)
      (λ _. decided P (eqb call 8) _ _ (λ e. inr (rw (eqb-true call 8 e)))
      (λ _. decided P (eqb call 9) _ _ (λ e. inr (rw (eqb-true call 9 e)))
      (λ _. decided P (eqb call 10) _ _ (λ e. inr (rw (eqb-true call 10 e)))
      (λ _. decided P (eqb call 11) _ _ (λ _. inl refl)
      (λ _. decided P (eqb call 12) _ _ (λ _. inl refl)
      (λ _. decided P (eqb call 13) _ _ (λ _. inl refl)
      (λ _. decided P (eqb call 14) _ _ (λ _. inl refl)
      (λ _. decided P (eqb call 15) _ _ (λ _. inl refl)
      (λ _. decided P (eqb call 16) _ _ (λ _. inl refl)
      (λ _. decided P (eqb call 17) _ _ (λ _. inl refl)
      (λ _. decided P (eqb call 18) _ _ (λ _. inl refl)
      (λ _. decided P (eqb call 19) _ _ (λ _. inl refl)
      (λ _. inl refl))))))))))))))))))))
    where
      P : At → Type 0
      P at = ((need_of at).hold ≡ N.Nothing) ⊎ ((need_of at).object ≡ cond (eqb call 10) mutex object)
