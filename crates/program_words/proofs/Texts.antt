-- Texts that are put one behind the other.
use Rattle.std.proofs.Common.{◌≡◌, ◌∙◌, ◌++◌, ap, append_assoc}
use Rattle.clap.specs.Words.{Text}

-- what is put behind a text that ends in another stands behind both
pub behind : (x b r y z : Text) → y ≡ x ++ b → z ≡ y ++ r → z ≡ x ++ (b ++ r)
behind x b r y z e f = f ∙ (ap (λ t. t ++ r) e ∙ append_assoc x b r)
