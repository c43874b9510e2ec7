mod Printed
mod Words
mod Places
mod Turns
