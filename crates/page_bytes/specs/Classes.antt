-- Sets of bytes. A byte is a number below 256, and a set says of each whether it is a member.
-- Digits, hexadecimal digits, letters, and letters with digits are the library's `is_ascii_digit`, `is_ascii_hexdigit`,
-- `is_ascii_alphabetic` and `is_ascii_alphanumeric`.
-- Assumes nothing.
use Rattle.std.specs.Prelude.{ℕ, ◌+◌, Bool, cond, not, ◌&&◌, ◌||◌, ◌==◌, bit_and, nat_lt}
use Rattle.std.specs.Char.{is_ascii_alphanumeric}
use Rattle.std.specs.Int.{is_in_range}

-- a byte that is a character by itself
abbrev pub ascii : ℕ → Bool
ascii b = nat_lt b 128

-- a byte of a character that is not its first
abbrev pub continuation : ℕ → Bool
continuation b = is_in_range 128 191 b

-- tab, VT and FF, space
abbrev pub blank : ℕ → Bool
blank b = b == 9 || (is_in_range 11 12 b || b == 32)

-- what the name of a domain is made of: letters, digits, `.`, `-` and `_`
abbrev pub domain_byte : ℕ → Bool
domain_byte b = is_ascii_alphanumeric b || (is_in_range 45 46 b || b == 95)

-- what ends a word, by ranges:
--   tab, LF, VT, FF, CR     ESC     space ! " #     % & ' ( ) * + , - .
--   : ; < = > ?             [ \ ] ^ _ `             { | } ~
abbrev pub word_end : ℕ → Bool
word_end b =
    is_in_range 9 13 b || (b == 27 || (is_in_range 32 35 b || (is_in_range 37 46 b || (is_in_range 58 63 b || (is_in_range 91 96 b || is_in_range 123 126 b)))))

abbrev pub word_byte : ℕ → Bool
word_byte b = not (word_end b)

-- a word's stem is what stands before its `@`: it is made of the word bytes but `@`
abbrev pub stem_byte : ℕ → Bool
stem_byte b = word_byte b && not (b == 64)

-- three classes as bits of one number: 1 for a blank, 2 for a word byte, 4 for a stem byte
abbrev pub class_bits : ℕ → ℕ
class_bits b = cond (blank b) 1 0 + cond (word_byte b) 2 0 + cond (stem_byte b) 4 0

-- a bit stands in a number
abbrev pub has_bit : ℕ → ℕ → Bool
has_bit bits bit = not (bit_and bits bit == 0)
