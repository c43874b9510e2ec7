mod Picks
mod Sends
mod Numbers
mod Places
mod Heard
mod Outcomes
