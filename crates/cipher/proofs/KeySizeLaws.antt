-- Laws of the key sizes: rounds and bytes of a key are at most 32, the rounds a multiple of four; a length tells its size, and a size its length.
use Rattle.std.proofs.Common.{◌≡◌, ℕ, ◌*◌, ◌/◌, ◌≤◌, Bool, true, false, cond, not, ◌||◌, eqb, refl, ◌∙◌, arith, lit≤, eq-eqb, ne_eqb, eqb-true, Some, None}
use Rattle.cipher.specs.KeySize.{rounds, key_length, book_length, size_by, size_of_key, size_of_book}
use Rattle.cipher.specs.declared.size.KeySize.{KeySize}
use Rattle.cipher.specs.declared.size.KeySize.TheVariants.{Bytes16, Bytes24, Bytes32}

pub rounds_le : (z : KeySize) → rounds z ≤ 32
rounds_le Bytes16 = lit≤ tt
rounds_le Bytes24 = lit≤ tt
rounds_le Bytes32 = lit≤ tt

pub rounds_more : (z : KeySize) → 24 ≤ rounds z
rounds_more Bytes16 = lit≤ tt
rounds_more Bytes24 = lit≤ tt
rounds_more Bytes32 = lit≤ tt

pub rounds_fours : (z : KeySize) → 4 * (rounds z / 4) ≡ rounds z
rounds_fours Bytes16 = refl
rounds_fours Bytes24 = refl
rounds_fours Bytes32 = refl

pub key_le : (z : KeySize) → key_length z ≤ 32
key_le Bytes16 = lit≤ tt
key_le Bytes24 = lit≤ tt
key_le Bytes32 = lit≤ tt

-- the four answers of a length, by the tests that the code makes
module _ (len : KeySize → ℕ) (n : ℕ) where
  pub found_16 : n ≡ len Bytes16 → size_by len n ≡ Some Bytes16
  unfolding size_by
  found_16 e = rw (eq-eqb n (len Bytes16) e)

  module _ (a : n ≡ len Bytes16 → ⊥) where
    pub found_24 : n ≡ len Bytes24 → size_by len n ≡ Some Bytes24
    unfolding size_by
    found_24 e = rw (ne_eqb n (len Bytes16) a, eq-eqb n (len Bytes24) e)

    module _ (b : n ≡ len Bytes24 → ⊥) where
      pub found_32 : n ≡ len Bytes32 → size_by len n ≡ Some Bytes32
      unfolding size_by
      found_32 e = rw (ne_eqb n (len Bytes16) a, ne_eqb n (len Bytes24) b, eq-eqb n (len Bytes32) e)

      pub found_none : (n ≡ len Bytes32 → ⊥) → size_by len n ≡ None
      unfolding size_by
      found_none c = rw (ne_eqb n (len Bytes16) a, ne_eqb n (len Bytes24) b, ne_eqb n (len Bytes32) c)

-- a size is the size of its own length
pub size_of_key_lem : (z : KeySize) → size_of_key (key_length z) ≡ Some z
unfolding size_by
size_of_key_lem Bytes16 = refl
size_of_key_lem Bytes24 = refl
size_of_key_lem Bytes32 = refl

pub size_of_book_lem : (z : KeySize) → size_of_book (book_length z) ≡ Some z
unfolding size_by
size_of_book_lem Bytes16 = refl
size_of_book_lem Bytes24 = refl
size_of_book_lem Bytes32 = refl

-- the size that was found has the length
pub found_length : (len : KeySize → ℕ) (n : ℕ) (z : KeySize) → size_by len n ≡ Some z → n ≡ len z
unfolding size_by
found_length len n z = go (eqb n (len Bytes16)) refl (eqb n (len Bytes24)) refl (eqb n (len Bytes32)) refl
  where
    go : (a : Bool) → eqb n (len Bytes16) ≡ a → (b : Bool) → eqb n (len Bytes24) ≡ b → (c : Bool) → eqb n (len Bytes32) ≡ c
        → cond a (Some Bytes16) (cond b (Some Bytes24) (cond c (Some Bytes32) None)) ≡ Some z → n ≡ len z
    go true p b q c r e = let h : Bytes16 ≡ z = cc in eqb-true n (len Bytes16) p ∙ cc
    go false p true q c r e = let h : Bytes24 ≡ z = cc in eqb-true n (len Bytes24) q ∙ cc
    go false p false q true r e = let h : Bytes32 ≡ z = cc in eqb-true n (len Bytes32) r ∙ cc
    go false p false q false r e = let w : ◌≡◌ {A = ℕ} 0 1 = cc in absurd (omega arith)

-- a length that tells no size is none of the three, and one that tells a size is one of them
module _ (len : KeySize → ℕ) (n : ℕ) where
  pub none_of : size_by len n ≡ None → not (eqb n (len Bytes16) || eqb n (len Bytes24) || eqb n (len Bytes32)) ≡ true
  unfolding size_by
  none_of = go (eqb n (len Bytes16)) (eqb n (len Bytes24)) (eqb n (len Bytes32))
    where
      go : (a b c : Bool) → cond a (Some Bytes16) (cond b (Some Bytes24) (cond c (Some Bytes32) None)) ≡ None → not (a || b || c) ≡ true
      go false false false e = refl
      go true b c e = let w : ◌≡◌ {A = ℕ} 0 1 = cc in absurd (omega arith)
      go false true c e = let w : ◌≡◌ {A = ℕ} 0 1 = cc in absurd (omega arith)
      go false false true e = let w : ◌≡◌ {A = ℕ} 0 1 = cc in absurd (omega arith)

  pub one_of : (z : KeySize) → n ≡ len z → not (eqb n (len Bytes16) || eqb n (len Bytes24) || eqb n (len Bytes32)) ≡ false
  one_of Bytes16 e = rw (eq-eqb n (len Bytes16) e)
  one_of Bytes24 e = second (eqb n (len Bytes16)) (eqb n (len Bytes24)) (eqb n (len Bytes32)) (eq-eqb n (len Bytes24) e)
    where
      second : (a b c : Bool) → b ≡ true → not (a || b || c) ≡ false
      second true b c e = refl
      second false true c e = refl
      second false false c e = let w : ◌≡◌ {A = ℕ} 0 1 = cc in absurd (omega arith)
  one_of Bytes32 e = third (eqb n (len Bytes16)) (eqb n (len Bytes24)) (eqb n (len Bytes32)) (eq-eqb n (len Bytes32) e)
    where
      third : (a b c : Bool) → c ≡ true → not (a || b || c) ≡ false
      third true b c e = refl
      third false true c e = refl
      third false false true e = refl
      third false false false e = let w : ◌≡◌ {A = ℕ} 0 1 = cc in absurd (omega arith)
