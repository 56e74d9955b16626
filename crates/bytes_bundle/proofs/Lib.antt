-- `Cuts`: how a bundle's reading goes, as tests on lengths and plain cuts. `Places`: where each part stands.
mod Cuts
mod Places
