use Rattle.np_caseless.proofs.simple_images.SimpleImages.build.Goals as goal

pub returns-clause-images : goal.returns-clause-images
returns-clause-images g c = λ v same canonical compatible. record {
  nfd = c.in_ok-nfd.ensures v same canonical;
  nfc = c.in_ok-nfc.ensures v same canonical;
  nfkd = c.in_ok-nfkd.ensures v same compatible;
  nfkc = c.in_ok-nfkc.ensures v same compatible;
}
